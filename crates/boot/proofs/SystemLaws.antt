-- The laws of specs/Systems.antt: the size of a system and its load list.
use Prim.Native.Nat.{ℕ, ◌+◌, ◌*◌, ◌≤◌, ◌<◌}
use native.Mathlib.Omega.{arith}
use mathlib.Core.Path.{◌≡◌, ◌∙◌}
use mathlib.Core.Bool.{true, false}
use mathlib.Core.List.{List}
use lib.ListN.{length, length-take}
use lib.Seq.{length-take-le}
use Rattle.rows.specs.Words.{first, same}
use Rattle.rows.specs.Rows.{part, begins}
use Rattle.rows.proofs.IndexLaws.{first_most, first_least, first_found, found_if}
use Rattle.rows.proofs.NumberLaws.{Bytes, part_small}
use Rattle.rows.proofs.RowLaws.{row_end, length_part, part_part, part_take}
use Rattle.directory.specs.Directory.{file_length, null_name, file_of}
use Rattle.boot.specs.Choice.{name_of}
use Rattle.boot.specs.Systems.{system_rows, first_name, names_before, load_list, system_size}

-- the size of a system is a number of two bytes
pub size_small : (t dir : List ℕ) (i : ℕ) → Bytes dir → system_size t dir i < 65536
unfolding system_size file_length
size_small t dir i small = part_small dir (24 * file_of dir (first_name t i) + 13) 2 small

-- a load list has eight names at most
pub names_most : (list : List ℕ) → names_before list ≤ 8
unfolding names_before
names_most list = first_most (begins 8 list null_name) 8

pub list_most : (t : List ℕ) (i : ℕ) → length (load_list t i) ≤ 64
unfolding load_list
list_most t i = simp length-take (omega (arith, names_most (part t (96 * i + 23) 64)))

-- it has the names of the row in their order, none of them null, and a null name ends it
module _ (t : List ℕ) (i : ℕ) (l : i < system_rows t) where
  pub list_long : length (load_list t i) ≡ 8 * names_before (part t (96 * i + 23) 64)
  unfolding load_list system_rows
  list_long = length-take-le (8 * names_before (part t (96 * i + 23) 64)) (part t (96 * i + 23) 64)
      (omega (arith, names_most (part t (96 * i + 23) 64), length_part t (96 * i + 23) 64 (omega arith)))

  pub list_name : (k : ℕ) → k < names_before (part t (96 * i + 23) 64) → name_of (load_list t i) k ≡ part t (96 * i + 23 + 8 * k) 8
  unfolding load_list name_of system_rows
  list_name k b =
      let most = names_most (part t (96 * i + 23) 64) in
      let long = length_part t (96 * i + 23) 64 (omega arith) in
      part_take (part t (96 * i + 23) 64) (8 * names_before (part t (96 * i + 23) 64)) (8 * k) 8 (omega (arith, row_end 8 b)) (omega (arith, most, long))
      ∙ part_part t (96 * i + 23) 64 (8 * k) 8 (omega (arith, row_end 8 b, most))

  pub list_ends : names_before (part t (96 * i + 23) 64) < 8 → same (part t (96 * i + 23 + 8 * names_before (part t (96 * i + 23) 64)) 8) null_name ≡ true
  unfolding names_before begins null_name
  list_ends b =
      let at = first (begins 8 (part t (96 * i + 23) 64) null_name) 8 in
      rw (← part_part t (96 * i + 23) 64 (8 * at) 8 (omega (arith, row_end 8 b)))
      (first_found (begins 8 (part t (96 * i + 23) 64) null_name) 8 (found_if (begins 8 (part t (96 * i + 23) 64) null_name) 8 b)).1

  pub list_names : (k : ℕ) → k < names_before (part t (96 * i + 23) 64) → same (part t (96 * i + 23 + 8 * k) 8) null_name ≡ false
  unfolding names_before begins null_name
  list_names k b =
      rw (← part_part t (96 * i + 23) 64 (8 * k) 8 (omega (arith, row_end 8 b, names_most (part t (96 * i + 23) 64))))
      (first_least (begins 8 (part t (96 * i + 23) 64) null_name) 8 k b)
