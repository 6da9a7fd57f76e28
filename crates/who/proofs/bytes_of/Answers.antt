use Rattle.who.proofs.RecordLaws.{put_four}
use Rattle.who.specs.Records.{flag, bytes_of}
use Rattle.rows.specs.Numbers.{low_bytes}
use lib.ListN.{length, replicate}
use mathlib.Core.Path.{◌≡◌, refl, ◌∙◌}
use mathlib.Core.List.{[], ◌∷◌}
use native.Mathlib.Omega.{arith}
use borrow.Author.Rules.{rules}
use Rattle.who.proofs.bytes_of.Goals as goal

pub returns : goal.returns
unfolding bytes_of flag low_bytes
returns c =
    let s = c.args.s in
    -- the lengths of the fields as they came, and the flags
    let name : length s.name ≡ 8 = search rules in
    let serial : length s.serial ≡ 4 = search rules in
    let logged : c.from.result ≡ flag s.logged = search rules in
    let found : c.from-2.result ≡ flag s.found = search rules in
    c.put-4.ensures
    ∙ rw (
      c.put-3.ensures,
      c.put-2.ensures,
      c.put.ensures,
      c.to_le_bytes.ensures,
      put_four (replicate 18 0) (_ ∷ _ ∷ _ ∷ _ ∷ []) s.name s.serial (_ ∷ _ ∷ []) 4 12 16 refl (omega arith) (omega arith) refl,
      logged,
      found,
    )
