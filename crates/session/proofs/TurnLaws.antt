-- A block taken: the bytes that wait, those that were read behind them, and those that are kept.
use Prim.Native.Nat.{ℕ, ◌+◌, ◌-◌, ◌≤◌}
use native.Mathlib.Omega.{arith}
use mathlib.Core.Path.{◌≡◌, sym, ap, ◌∙◌}
use Rattle.std.specs.Prelude.{Result, Ok, Err, Some, IfOk}
use Rattle.std.specs.Result.{result_ok}
use mathlib.Core.List.{List, ◌++◌}
use lib.ListN.{length, take, drop, take-append-drop}
use lib.Seq.{take-take, take-add, take_at, drop_at, length-take-le}
use Rattle.rows.proofs.RowLaws.{length_part, over_first}
use Rattle.rows.specs.Rows.{part, put}
use Rattle.session.specs.Session.{Played, Plays, between, Takes}

-- n bytes from `at` on are those that follow `at` in a list that ends with them
part_last : (l : List ℕ) (at n : ℕ) → at ≤ length l → part l at n ≡ drop at (take (at + n) l)
unfolding part
part_last l at n h = sym (rw (take-add at n l) (drop_at (take at l) (take n (drop at l)) at (length-take-le at l h)))

-- where an attempt to read that gave a value then ended
pub read_ends : {E : Type 0} (kept n : ℕ) (r : Result ℕ E) {end : ℕ} → Some end ≡ result_ok r → IfOk r (λ e. (kept ≤ e) × (e ≤ n)) → (kept ≤ end) × (end ≤ n)
read_ends kept n (Ok x) {end} e h = let same : x ≡ end = cc in rw same at h
read_ends kept n (Err x) e h = cc

-- of l, which holds the bytes that waited and those read up to `end`, what was not played is moved to the start
pub takes : (s input l : List ℕ) (kept i end : ℕ) (t w o : List ℕ) (r : Played) (t' w' o' input' : List ℕ)
    → kept ≤ end → end ≤ length l → r.at ≤ end → take kept l ≡ take kept input
    → Plays (take end l) i s t w o r t' w' o' → input' ≡ put l 0 (part l r.at (end - r.at))
    → Takes s (between input kept i t w) (between input' (end - r.at) r.index t' w')
takes s input l kept i end t w o r t' w' o' input' a b h waits p moved =
    let at = r.at in
    let n = end - at in
    let ends : at + n ≡ end = omega arith in
    let all : take kept input ++ drop kept (take end l) ≡ take end l = rw (← waits, ← take-take kept end l a) (take-append-drop kept (take end l)) in
    let left : take n input' ≡ drop at (take end l) =
    rw (moved, over_first l (part l at n)) (take_at (part l at n) _ n (length_part l at n (omega arith)) ∙ part_last l at n (omega arith) ∙ ap (λ (k : ℕ). drop at (take k l)) ends)
    in
    record { read = drop kept (take end l); stand = rw (left, all) p.stand }
