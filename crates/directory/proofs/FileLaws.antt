-- The laws of specs/Directory.antt: a file by its name.
use Prim.Native.Nat.{ℕ, ◌+◌, ◌*◌, ◌<◌}
use native.Mathlib.Omega.{arith}
use mathlib.Core.Path.{◌≡◌}
use mathlib.Core.Bool.{true, false}
use mathlib.Core.List.{List}
use lib.Dec.{ltb}
use lib.ListN.{length}
use Rattle.rows.specs.Words.{first, same}
use Rattle.rows.specs.Rows.{begins}
use Rattle.rows.proofs.IndexLaws.{none_from, first_none, first_below, first_found, first_same}
use Rattle.rows.proofs.RowLaws.{length_part}
use Rattle.directory.specs.Directory.{files, file_entry, null_name, file_named, file_of, in_directory}

module _ (t name : List ℕ) where
  -- a null name is not found; any other is looked for by its bytes
  pub null_missing : same name null_name ≡ true → file_of t name ≡ files t
  unfolding file_of file_named
  null_missing null = first_none (file_named t name) (files t) (none_from (file_named t name) (files t) (λ i l. rw null))

  pub named_begins : same name null_name ≡ false → file_of t name ≡ first (begins 24 t name) (files t)
  unfolding file_of file_named
  named_begins some = first_same (begins 24 t name) (file_named t name) (files t) (λ i l. rw some)

  -- it is there just where the search ends at a row
  pub found_there : ltb (file_of t name) (files t) ≡ in_directory t name
  unfolding file_of in_directory
  found_there = first_below (file_named t name) (files t)

  pub there_at : in_directory t name ≡ true → file_of t name < files t
  unfolding file_of in_directory
  there_at there = (first_found (file_named t name) (files t) there).0

-- a file's row lies in the directory, so its entry has 16 bytes
pub length_entry : (t : List ℕ) (i : ℕ) → i < files t → length (file_entry t i) ≡ 16
unfolding file_entry files
length_entry t i l = length_part t (24 * i + 8) 16 (omega arith)
