-- The laws of specs/Records.antt: when a record is whole, and where its parts stand in a block.
use Prim.Native.Nat.{ℕ, ◌+◌, ◌-◌, ◌≤◌, ◌<◌}
use native.Mathlib.Omega.{arith}
use mathlib.Core.Path.{◌≡◌}
use mathlib.Core.Bool.{true, false}
use mathlib.Core.List.{List}
use lib.ListN.{length, take, drop, get_or, length-drop}
use lib.Seq.{get_or-drop, length-take-le}
use Rattle.std.proofs.lemmas.List.{get_or-take, drop-take, take_rest}
use borrow.Author.Tests.{leb-true, leb-false}
use Rattle.rows.specs.Rows.{part}
use Rattle.session.specs.Records.{number, frame_size, frame, record_size, whole}

-- what is known of a whole record of n bytes at `at` in a block f
pub record Whole (f : List ℕ) (at n : ℕ) : Type 0 where
  pub is : whole (drop at f) ≡ true
  pub size : n ≡ record_size (drop at f)
  pub more : 2 ≤ n
  pub inside : at + n ≤ length f

-- what is left of a block f from `at` on, as a slice
abbrev pub left_of : List ℕ → ℕ → List ℕ
left_of f at = take (length f - at) (drop at f)

-- what is known of a record r that was found whole there
pub record Found (f : List ℕ) (at : ℕ) (r : List ℕ) : Type 0 where
  pub whole : Whole f at (length r)
  pub number : number r ≡ number (drop at f)
  pub frame : drop 2 r ≡ frame (drop at f)

module _ (f : List ℕ) (at : ℕ) (r : List ℕ) (inside : at ≤ length f) (is : whole (drop at f) ≡ true) (bytes : r ≡ take (record_size (drop at f)) (drop at f)) where
  there : record_size (drop at f) ≤ length (drop at f)
  unfolding whole
  there = leb-true (record_size (drop at f)) (length (drop at f)) is

  long : length r ≡ record_size (drop at f)
  long = rw bytes (length-take-le (record_size (drop at f)) (drop at f) there)

  found_whole : Whole f at (length r)
  unfolding record_size
  found_whole = record { is = is; size = long; more = omega (arith, long); inside = omega (arith, long, there, length-drop at f) }

  found_number : number r ≡ number (drop at f)
  unfolding number record_size
  found_number = rw bytes (get_or-take (record_size (drop at f)) (drop at f) 0 0 (omega arith))

  found_frame : drop 2 r ≡ frame (drop at f)
  unfolding part frame record_size
  found_frame = rw bytes (drop-take 2 (frame_size (drop at f)) (drop at f))

  found_here : Found f at r
  found_here = record { whole = found_whole; number = found_number; frame = found_frame }

pub found : (f : List ℕ) (at : ℕ) (r : List ℕ) → at ≤ length f → (whole (left_of f at) ≡ true) × (r ≡ take (record_size (left_of f at)) (left_of f at)) → Found f at r
found f at r inside h = let e = rw (take_rest f at) at h in found_here f at r inside e.0 e.1

pub none_found : (f : List ℕ) (at : ℕ) → whole (left_of f at) ≡ false → whole (drop at f) ≡ false
none_found f at h = rw (take_rest f at) at h

-- what stands at `at` and is not whole is shorter than the longest record
pub broken_short : (f : List ℕ) (at : ℕ) → whole (drop at f) ≡ false → get_or f (at + 1) 0 < 256 → length f ≤ at + 256
unfolding whole record_size frame_size
broken_short f at h b = omega (arith, leb-false (record_size (drop at f)) (length (drop at f)) h, length-drop at f, get_or-drop at f 1 0)
