-- The laws of specs/Rows.antt: a part of lent bytes after a part was put down. Over the place, the width w and the number of rows n.
use Prim.Native.Nat.{ℕ, zero, suc, ◌+◌, ◌-◌, ◌*◌, ◌≤◌, ◌<◌}
use native.Mathlib.Nat.{not-suc-le-zero, add-zero, add_assoc, mul-suc, mul-le-mul_left, le_of_suc-le-suc, eq-or-lt_of_le}
use native.Mathlib.Numerals.{add-one}
use native.Mathlib.Omega.{arith}
use mathlib.Core.Path.{◌≡◌, refl, sym, ap, ◌∙◌, subst}
use mathlib.Core.Logic.{◌⊎◌, inl, inr, ⊎_elim}
use mathlib.Core.List.{List, [], ◌∷◌, ◌++◌, append-nil, append_assoc}
use lib.ListN.{length, take, drop, get_or, set, replicate, length-append, length-take, length-drop, take-append-drop, drop_of_length-le, get_or-append}
use lib.Seq.{ext_get_or, set_split, take-suc, get_or-take, get_or-drop, get_or-append-add, length-take-le, take_at, drop_at, take_all, take-append-le, drop-append-le, drop-append-add, take-length, drop-drop}
use borrow.Author.Tests.{ltb-true, ltb-false}
use lib.Dec.{ltb}
use Rattle.rows.proofs.BoolLaws.{by_test}
use Rattle.rows.specs.Rows.{part, put, over, copies, join, row, set_row, each_row}

pub get_D_right : (xs ys : List ℕ) (k : ℕ) → length xs ≤ k → get_or (xs ++ ys) k 0 ≡ get_or ys (k - length xs) 0
get_D_right xs ys k h =
    let e : k ≡ length xs + (k - length xs) = omega arith in
    ap (λ (m : ℕ). get_or (xs ++ ys) m 0) e ∙ get_or-append-add xs ys (k - length xs) 0

-- a part that lies in the list: its length, its bytes, and what follows it
module _ (l : List ℕ) (at n : ℕ) where
  pub length_part : at + n ≤ length l → length (part l at n) ≡ n
  unfolding part
  length_part h = simp (length-take, length-drop) (omega arith)

  pub part_most : length (part l at n) ≤ n
  unfolding part
  part_most = simp length-take (omega arith)

  pub get_d_part : (k : ℕ) → k < n → get_or (part l at n) k 0 ≡ get_or l (at + k) 0
  unfolding part
  get_d_part k h = rw (get_or-take, get_or-drop)

  pub head_part : 0 < n → get_or (part l at n) 0 0 ≡ get_or l at 0
  head_part h = get_d_part 0 h ∙ ap (λ (k : ℕ). get_or l k 0) (add-zero at)

  pub part_rest : part l at n ++ drop (at + n) l ≡ drop at l
  unfolding part
  part_rest = rw (← drop-drop) (take-append-drop n (drop at l))

-- a part behind what stands before it, with a rest behind it and without
module _ (a p : List ℕ) (at n : ℕ) (start : length a ≡ at) (full : length p ≡ n) where
  pub part_mid : (r : List ℕ) → part (a ++ (p ++ r)) at n ≡ p
  unfolding part
  part_mid r = rw (drop_at a (p ++ r) at start) (take_at p r n full)

  pub part_end : part (a ++ p) at n ≡ p
  unfolding part
  part_end = rw (drop_at a p at start) (take_all n p (omega arith))

-- a part of a part
pub part_part : (l : List ℕ) (at n a m : ℕ) → a + m ≤ n → part (part l at n) a m ≡ part l (at + a) m
unfolding part
part_part l at n a m h = ext_get_or 0 _ _
    (simp (length-take, length-drop) (omega arith))
    (λ k b.
    let lt : k < m = omega (arith, simp length-take at b) in
    rw (get_or-take m (drop a (take n (drop at l))) k 0 lt, get_or-drop a (take n (drop at l)) k 0, get_or-take n (drop at l) (a + k) 0 (omega arith), get_or-drop at l (a + k) 0)
    (rw (get_or-take m (drop (at + a) l) k 0 lt, get_or-drop (at + a) l k 0, add_assoc at a k)))

-- a part that lies in the first of two lists
pub part_append : (a b : List ℕ) (at n : ℕ) → at + n ≤ length a → part (a ++ b) at n ≡ part a at n
unfolding part
part_append a b at n h =
    rw (drop-append-le at a b (omega arith), take-append-le n (drop at a) b (simp length-drop (omega arith)))

-- a part that lies in the second of two lists, one before a cut and one behind it
pub part_right : (a b : List ℕ) (at n : ℕ) → length a ≤ at → part (a ++ b) at n ≡ part b (at - length a) n
unfolding part
part_right a b at n h =
    let e : at ≡ length a + (at - length a) = omega arith in
    ap (λ (k : ℕ). take n (drop k (a ++ b))) e ∙ rw (drop-append-add a b (at - length a))

pub part_take : (l : List ℕ) (k at n : ℕ) → at + n ≤ k → k ≤ length l → part (take k l) at n ≡ part l at n
part_take l k at n h fits =
    sym (part_append (take k l) (drop k l) at n (omega (arith, length-take-le k l fits))) ∙ rw (take-append-drop k l)

pub part_drop : (l : List ℕ) (k at n : ℕ) → part (drop k l) at n ≡ part l (k + at) n
unfolding part
part_drop l k at n = rw (drop-drop at k l)

-- all of p copied over bytes that are no more
pub copied_over : (p d : List ℕ) → length d ≤ length p → take (length p) p ++ drop (length p) d ≡ p
copied_over p d h = rw (take-length, drop_of_length-le d h) (append-nil p)

-- a part of l copied over bytes that are no more
pub copied_part : (l : List ℕ) (at n : ℕ) (p d : List ℕ) → at + n ≤ length l → p ≡ part l at n → length d ≤ n → take (length p) p ++ drop (length p) d ≡ part l at n
copied_part l at n p d fits e h = copied_over p d (omega (arith, ap length e, length_part l at n fits)) ∙ e

-- a part put down
module _ (l : List ℕ) (at : ℕ) (p : List ℕ) (fits : at + length p ≤ length l) where
  pub length_put : length (put l at p) ≡ length l
  unfolding put
  length_put = simp (length-append, length-take, length-drop) (omega arith)

  head_long : length (take at l) ≡ at
  head_long = length-take-le at l (omega arith)

  pub part_put : part (put l at p) at (length p) ≡ p
  unfolding part put
  part_put =
      ap (take (length p)) (drop_at (take at l) (p ++ drop (length p) (drop at l)) at head_long)
      ∙ take_at p (drop (length p) (drop at l)) (length p) refl

  -- a byte before it, and one after it
  before : (k : ℕ) → k < at → get_or (put l at p) k 0 ≡ get_or l k 0
  unfolding put
  before k h = get_or-append (take at l) _ 0 k (rw head_long h) ∙ get_or-take at l k 0 h

  after : (k : ℕ) → at + length p ≤ k → get_or (put l at p) k 0 ≡ get_or l k 0
  unfolding put
  after k h =
      get_D_right (take at l) (p ++ drop (length p) (drop at l)) k (omega (arith, head_long))
      ∙ get_D_right p (drop (length p) (drop at l)) (k - length (take at l)) (omega (arith, head_long))
      ∙ get_or-drop (length p) (drop at l) (k - length (take at l) - length p) 0
      ∙ get_or-drop at l (length p + (k - length (take at l) - length p)) 0
      ∙ ap (λ (m : ℕ). get_or l m 0) (omega (arith, head_long))

  pub part_put_apart : (b n : ℕ) → (b + n ≤ at) ⊎ (at + length p ≤ b) → part (put l at p) b n ≡ part l b n
  unfolding part
  part_put_apart b n apart = ext_get_or 0 _ _
      (simp (length-take, length-drop, length_put))
      (λ k h.
      let lt : k < n = omega (arith, simp length-take at h) in
      rw (get_or-take n (drop b (put l at p)) k 0 lt, get_or-take n (drop b l) k 0 lt, get_or-drop b (put l at p) k 0, get_or-drop b l k 0)
      (⊎_elim (λ lo. before (b + k) (omega arith)) (λ hi. after (b + k) (omega arith)) apart))

-- one byte stored is a part of one byte put down, and a part with the byte behind it
pub set_put : (l : List ℕ) (at x : ℕ) → at < length l → set l at x ≡ put l at (x ∷ [])
unfolding put
set_put l at x h = set_split l at x h ∙ ap (λ (r : List ℕ). take at l ++ x ∷ r) (sym (drop-drop 1 at l ∙ ap (λ (k : ℕ). drop k l) (add-one at)))

pub part_more : (l : List ℕ) (at n : ℕ) → at + n < length l → part l at (n + 1) ≡ part l at n ++ (get_or l (at + n) 0 ∷ [])
unfolding part
part_more l at n h = rw (add-one n, ← get_or-drop at l n 0) (take-suc (drop at l) n 0 (omega (arith, length-drop at l)))

-- a part put back where it stands
pub put_part : (l : List ℕ) (at n : ℕ) → at + n ≤ length l → put l at (part l at n) ≡ l
unfolding put part
put_part l at n h =
    let long : length (take n (drop at l)) ≡ n = simp (length-take, length-drop) (omega arith) in
    rw (long, take-append-drop) (take-append-drop at l)

-- a part put down behind another one, and one that reaches to the end
pub put_next : (l p q : List ℕ) (at end : ℕ) → at + length p ≡ end → end + length q ≤ length l → put (put l at p) end q ≡ put l at (p ++ q)
unfolding put
put_next l p q at end h fits =
    let rest = drop end l in
    let long : length (take at l ++ p) ≡ end = length-append (take at l) p ∙ omega (arith, length-take-le at l (omega arith)) in
    let laid : put l at p ≡ (take at l ++ p) ++ rest = rw (drop-drop, h) (sym (append_assoc (take at l) p rest)) in
    rw (laid, take_at (take at l ++ p) rest end long, drop_at (take at l ++ p) rest end long, length-append p q, ← drop-drop (length q) (length p) (drop at l), drop-drop (length p) at l, h)
    (rw (append_assoc p q, append_assoc (take at l) p))

pub put_last : (l p : List ℕ) (at : ℕ) → length l ≡ at + length p → put l at p ≡ take at l ++ p
unfolding put
put_last l p at h = rw (drop-drop, drop_of_length-le l {i = at + length p} (omega arith), append-nil p)

-- a part moved down to `to`, byte by byte: its begin and a turn. What is read lies behind what was written
module _ (l : List ℕ) (from to : ℕ) where
  pub slide_none : l ≡ put l to (part l from 0)
  unfolding put part
  slide_none = sym (take-append-drop to l)

  pub slide_more : (k : ℕ) → to ≤ from → from + k < length l → set (put l to (part l from k)) (to + k) (get_or (put l to (part l from k)) (from + k) 0) ≡ put l to (part l from (k + 1))
  slide_more k below inside =
      let p = part l from k in
      let long : length p ≡ k = length_part l from k (omega arith) in
      let fits : to + length p ≤ length l = omega arith in
      let x = get_or l (from + k) 0 in
      let read : get_or (put l to p) (from + k) 0 ≡ x =
      sym (head_part (put l to p) (from + k) 1 (omega arith))
      ∙ ap (λ (r : List ℕ). get_or r 0 0) (part_put_apart l to p fits (from + k) 1 (inr (omega (arith, long))))
      ∙ head_part l (from + k) 1 (omega arith)
      in
      rw (read, set_put (put l to p) (to + k) x (omega (arith, length_put l to p fits)))
      (put_next l p (x ∷ []) to (to + k) (omega (arith, long)) (omega arith) ∙ ap (put l to) (sym (part_more l from k inside)))

-- what was put down so far, over the front of the bytes: its begin, and one more part
pub over_first : (l p : List ℕ) → put l 0 p ≡ over p l
unfolding put
over_first l p = refl

pub over_next : (l p q : List ℕ) (at : ℕ) → length p ≡ at → at + length q ≤ length l → put (over p l) at q ≡ over (p ++ q) l
unfolding put
over_next l p q at h fits =
    rw (take_at p (drop (length p) l) at h, drop_at p (drop (length p) l) at h, drop-drop, length-append)
    (sym (append_assoc p q (drop (length p + length q) l)))

pub length_over : (l p : List ℕ) → length p ≤ length l → length (over p l) ≡ length l
length_over l p h = simp (length-append, length-drop) (omega arith)

pub over_set : (l p : List ℕ) (at x : ℕ) → length p ≡ at → at < length l → set (over p l) at x ≡ over (p ++ (x ∷ [])) l
over_set l p at x h fits =
    set_put (over p l) at x (omega (arith, length_over l p (omega arith))) ∙ over_next l p (x ∷ []) at h (omega arith)

-- row i ends at or before row n
pub row_end : (w : ℕ) {i n : ℕ} → i < n → w * i + w ≤ w * n
row_end w {i} {n} l = subst (λ (k : ℕ). k ≤ w * n) (mul-suc w i) (mul-le-mul_left w l)

-- lists of w bytes each, one after the other
module _ (w : ℕ) (f : ℕ → List ℕ) where
  pub length_join : (n : ℕ) → ((k : ℕ) → k < n → length (f k) ≡ w) → length (join f n) ≡ w * n
  unfolding join
  length_join zero full = omega arith
  length_join (suc n) full = rw (length-append, length_join n (λ k l. full k (omega arith)), full n (omega arith), mul-suc)

  pub row_join : (n i : ℕ) → i < n → ((k : ℕ) → k < n → length (f k) ≡ w) → row w (join f n) i ≡ f i
  unfolding join part
  row_join zero i l full = absurd (not-suc-le-zero l)
  row_join (suc n) i l full =
      let long = length_join n (λ k b. full k (omega arith)) in
      ⊎_elim
      (λ (e : i ≡ n). rw (e, drop_at (join f n) (f n) (w * n) long) (take_all w (f n) (omega (arith, full n (omega arith)))))
      (λ lt. part_append (join f n) (f n) (w * i) w (omega (arith, long, row_end w lt)) ∙ row_join n i lt (λ k b. full k (omega arith)))
      (eq-or-lt_of_le (le_of_suc-le-suc l))

  -- a loop that puts them down from `at` on: its begin and a turn
  pub join_none : (l : List ℕ) (at : ℕ) → l ≡ put l at (join f 0)
  unfolding join put
  join_none l at = sym (take-append-drop at l)

  pub join_more : (l : List ℕ) (at k : ℕ) → ((j : ℕ) → j < k + 1 → length (f j) ≡ w) → at + w * k + w ≤ length l → put (put l at (join f k)) (at + w * k) (f k) ≡ put l at (join f (k + 1))
  unfolding join
  join_more l at k full fits =
      let long = length_join k (λ j b. full j (omega arith)) in
      put_next l (join f k) (f k) at (at + w * k) (omega (arith, long)) (omega (arith, full k (omega arith))) ∙ rw add-one

-- r put down n times
copies_join : (n : ℕ) (r : List ℕ) → copies n r ≡ join (λ _. r) n
unfolding copies join
copies_join zero r = refl
copies_join (suc n) r = rw (copies_join n r)

pub length_copies : (n : ℕ) (r : List ℕ) → length (copies n r) ≡ length r * n
length_copies n r = ap length (copies_join n r) ∙ length_join (length r) (λ _. r) n (λ k l. refl)

pub copies_none : (l r : List ℕ) → l ≡ over (copies 0 r) l
unfolding copies
copies_none l r = refl

-- r put down once more
pub copies_more : (l r : List ℕ) (i n : ℕ) → i < n → length r * n ≤ length l → put (over (copies i r) l) (length r * i) r ≡ over (copies (i + 1) r) l
unfolding copies
copies_more l r i n b h =
    rw add-one (over_next l (copies i r) r (length r * i) (length_copies i r) (omega (arith, row_end (length r) b)))

-- two rows lie apart
rows_apart : (w : ℕ) {i j : ℕ} → (j ≡ i → ⊥) → (w * j + w ≤ w * i) ⊎ (w * i + w ≤ w * j)
rows_apart w {i} {j} ne = by_test (ltb j i)
    (λ y. inl (row_end w (ltb-true j i y)))
    (λ m. let b : i < j = omega (arith, ltb-false j i m) in inr (row_end w b))

-- a row set in a table of n rows
module _ (w n : ℕ) (t : List ℕ) (sized : w * n ≤ length t) where
  pub length_row : (i : ℕ) → i < n → length (row w t i) ≡ w
  length_row i l = length_part t (w * i) w (omega (arith, row_end w l))

  module _ (i : ℕ) (l : i < n) (r : List ℕ) (full : length r ≡ w) where
    inside : w * i + length r ≤ length t
    inside = omega (arith, row_end w l)

    pub length_set_row : length (set_row w t i r) ≡ length t
    length_set_row = length_put t (w * i) r inside

    pub row_set_row : row w (set_row w t i r) i ≡ r
    row_set_row = ap (part (set_row w t i r) (w * i)) (sym full) ∙ part_put t (w * i) r inside

    pub row_set_row_other : (j : ℕ) → (j ≡ i → ⊥) → row w (set_row w t i r) j ≡ row w t j
    row_set_row_other j ne = part_put_apart t (w * i) r inside (w * j) w
        (⊎_elim (λ lo. inl lo) (λ hi. inr (omega arith)) (rows_apart w ne))

-- a loop that does f to each row: its begin and a turn
pub each_row_none : (w : ℕ) (f : List ℕ → List ℕ) (t : List ℕ) → t ≡ each_row w f 0 t
unfolding each_row
each_row_none w f t = refl

pub each_row_more : (w : ℕ) (f : List ℕ → List ℕ) (i : ℕ) (t : List ℕ) → each_row w f (i + 1) t ≡ set_row w (each_row w f i t) i (f (row w t i))
unfolding each_row
each_row_more w f i t = rw add-one

-- f done to each row: every row is f of what it was
module _ (w : ℕ) (f : List ℕ → List ℕ) (keeps : (r : List ℕ) → length r ≡ w → length (f r) ≡ w) (n : ℕ) (t : List ℕ) (sized : w * n ≤ length t) where
  pub length_each_row : (m : ℕ) → m ≤ n → length (each_row w f m t) ≡ length t
  unfolding each_row
  length_each_row zero h = refl
  length_each_row (suc m) h =
      let ih = length_each_row m (omega arith) in
      length_set_row w n (each_row w f m t) (omega (arith, ih)) m h (f (row w t m)) (keeps _ (length_row w n t sized m h)) ∙ ih

  still_sized : (m : ℕ) → m ≤ n → w * n ≤ length (each_row w f m t)
  still_sized m h = omega (arith, length_each_row m h)

  pub row_each_row_out : (m j : ℕ) → m ≤ j → j < n → row w (each_row w f m t) j ≡ row w t j
  unfolding each_row
  row_each_row_out zero j h l = refl
  row_each_row_out (suc m) j h l =
      row_set_row_other w n (each_row w f m t) (still_sized m (omega arith)) m (omega arith) (f (row w t m)) (keeps _ (length_row w n t sized m (omega arith))) j (omega arith)
      ∙ row_each_row_out m j (omega arith) l

  pub row_each_row : (m j : ℕ) → m ≤ n → j < m → row w (each_row w f m t) j ≡ f (row w t j)
  unfolding each_row
  row_each_row zero j h l = absurd (not-suc-le-zero l)
  row_each_row (suc m) j h l = ⊎_elim
      (λ e. rw e (row_set_row w n (each_row w f m t) (still_sized m (omega arith)) m h (f (row w t m)) (keeps _ (length_row w n t sized m h))))
      (λ lt. row_set_row_other w n (each_row w f m t) (still_sized m (omega arith)) m h (f (row w t m)) (keeps _ (length_row w n t sized m h)) j (omega arith)
      ∙ row_each_row m j (omega arith) lt)
      (eq-or-lt_of_le (le_of_suc-le-suc l))

-- each of n copies of r is r
pub row_copies : (w : ℕ) (r : List ℕ) → length r ≡ w → (n i : ℕ) → i < n → row w (copies n r) i ≡ r
row_copies w r full n i l = ap (λ (t : List ℕ). row w t i) (copies_join n r) ∙ row_join w (λ _. r) n i l (λ k b. full)

-- copies from the front, and a row of them
pub copies_front : (n : ℕ) (r : List ℕ) → copies (suc n) r ≡ r ++ copies n r
unfolding copies
copies_front zero r = sym (append-nil r)
copies_front (suc n) r = ap (λ (l : List ℕ). l ++ r) (copies_front n r) ∙ append_assoc r (copies n r) r

-- copies of one byte, and all of n bytes filled with it
copies_byte : (n a : ℕ) → copies n (a ∷ []) ≡ replicate n a
unfolding copies
copies_byte zero a = refl
copies_byte (suc n) a = copies_front n (a ∷ []) ∙ ap (λ (l : List ℕ). a ∷ l) (copies_byte n a)

pub filled : (l : List ℕ) (n a : ℕ) → length l ≡ n → over (copies n (a ∷ [])) l ≡ replicate n a
filled l n a h =
    rw (drop_of_length-le l {i = length (copies n (a ∷ []))} (omega (arith, length_copies n (a ∷ []))))
    (append-nil (copies n (a ∷ [])) ∙ copies_byte n a)
