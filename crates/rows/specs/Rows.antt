-- Lent bytes: a part of them, a part put down, and the same for rows of w bytes each.
use Rattle.std.specs.Prelude.{ℕ, zero, suc, ◌*◌, Bool, List, [], ◌++◌, length, take, drop}
use Rattle.rows.specs.Words.{same}

-- the n bytes of l that begin at `at`
unfoldable pub part : List ℕ → ℕ → ℕ → List ℕ
part l at n = take n (drop at l)

-- l with p in the place of the bytes that begin at `at`
unfoldable pub put : List ℕ → ℕ → List ℕ → List ℕ
put l at p = take at l ++ (p ++ drop (length p) (drop at l))

-- l with p in the place of its first bytes
abbrev pub over : List ℕ → List ℕ → List ℕ
over p l = p ++ drop (length p) l

-- row i of t
abbrev pub row : ℕ → List ℕ → ℕ → List ℕ
row w t i = part t (w * i) w

-- row i of t begins with these bytes
unfoldable pub begins : ℕ → List ℕ → List ℕ → ℕ → Bool
begins w t bytes i = same (part t (w * i) (length bytes)) bytes

-- t with r as its row i
abbrev pub set_row : ℕ → List ℕ → ℕ → List ℕ → List ℕ
set_row w t i r = put t (w * i) r

-- r again and again, n times
unfoldable pub copies : ℕ → List ℕ → List ℕ
copies zero r = []
copies (suc n) r = copies n r ++ r

-- f 0, f 1, .., f (n - 1), one after the other
unfoldable pub join : (ℕ → List ℕ) → ℕ → List ℕ
join f zero = []
join f (suc n) = join f n ++ f n

-- t with f done to each of its first n rows
unfoldable pub each_row : ℕ → (List ℕ → List ℕ) → ℕ → List ℕ → List ℕ
each_row w f zero t = t
each_row w f (suc n) t = set_row w (each_row w f n t) n (f (row w t n))
