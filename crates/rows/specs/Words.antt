-- Words over indices and lists: what holds at all, at some, first; a list by its elements; equal lists.
use Rattle.std.specs.Prelude.{ℕ, zero, suc, Bool, true, false, cond, not, ◌&&◌, ◌||◌, List, [], ◌∷◌, ◌++◌, eqb, leb, length, get_or}

-- p holds at every index below n
unfoldable pub all : (ℕ → Bool) → ℕ → Bool
all p zero = true
all p (suc n) = all p n && p n

-- p holds at some index below n
unfoldable pub any : (ℕ → Bool) → ℕ → Bool
any p zero = false
any p (suc n) = any p n || p n

-- the least index below n at which p holds, or n where there is none
unfoldable pub first : (ℕ → Bool) → ℕ → ℕ
first p zero = zero
first p (suc n) = cond (any p n) (first p n) (cond (p n) n (suc n))

-- p fails at i
unfoldable pub fails : (ℕ → Bool) → ℕ → Bool
fails p i = not (p i)

-- p holds at i, and at no index below n at which p holds the measure m is smaller than at i
unfoldable pub none_smaller : (ℕ → Bool) → (ℕ → ℕ) → ℕ → ℕ → Bool
none_smaller p m n i = p i && all (λ j. not (p j) || leb (m i) (m j)) n

-- the least index of these: where m is smallest among the indices below n at which p holds, the lower one on a tie; n where there is none
unfoldable pub smallest : (ℕ → Bool) → (ℕ → ℕ) → ℕ → ℕ
smallest p m n = first (none_smaller p m n) n

-- the list of f 0, f 1, .., f (n - 1)
unfoldable pub build : {A : Type 0} → (ℕ → A) → ℕ → List A
build f zero = []
build f (suc n) = build f n ++ (f n ∷ [])

-- a and b have the same byte at k
unfoldable pub same_at : List ℕ → List ℕ → ℕ → Bool
same_at a b k = eqb (get_or a k 0) (get_or b k 0)

-- a and b are as long as each other and the same byte by byte
unfoldable pub same : List ℕ → List ℕ → Bool
same a b = eqb (length a) (length b) && all (same_at a b) (length a)

-- every byte of l is zero
unfoldable pub zero_at : List ℕ → ℕ → Bool
zero_at l k = eqb (get_or l k 0) 0

unfoldable pub zeros : List ℕ → Bool
zeros l = all (zero_at l) (length l)
