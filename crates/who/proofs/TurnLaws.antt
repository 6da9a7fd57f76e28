-- The laws of a poll turn: counts stay in range, and a silent station is out after exactly as many turns as are left to it.
use Prim.Native.Nat.{ℕ, ◌+◌, ◌-◌, ◌*◌, ◌%◌, ◌≤◌, ◌<◌}
use native.Mathlib.Omega.{arith}
use mathlib.Core.Path.{◌≡◌, refl, sym, ◌∙◌}
use mathlib.Core.Bool.{Bool, true, false, cond, ◌||◌}
use lib.Dec.{eqb, leb, ltb, lit≤}
use borrow.Author.Tests.{eqb-true, eqb-false, eq-eqb, ne_eqb, ltb-true, ltb-false, lt-ltb, le-ltb, le-leb, lt-leb}
use Rattle.rows.proofs.BoolLaws.{by_test, by_eq, iff}
use Rattle.who.specs.Good.{good_counts}
use Rattle.who.specs.Turns.{is_due, misses_after, slow_after, is_out, turns_left}
use Rattle.who.proofs.RecordLaws.{Counts, counts_is, is_counts}

-- the three kinds of turn
pub data Turning (m s : ℕ) : Type 0 where
  early : m < 160 → is_due m s ≡ true → Turning m s
  waiting : 160 ≤ m → (s ≡ 11 → ⊥) → is_due m s ≡ false → Turning m s
  late : 160 ≤ m → s ≡ 11 → is_due m s ≡ true → Turning m s

pub turning : (m s : ℕ) → Turning m s
unfolding is_due
turning m s = by_test (ltb m 160)
    (λ y. early (ltb-true m 160 y) (rw y))
    (λ n. by_eq s 11
    (λ (e : s ≡ 11). late (ltb-false m 160 n) e (rw (n, eq-eqb s 11 e)))
    (λ ne. waiting (ltb-false m 160 n) ne (rw (n, ne_eqb s 11 ne))))

left_early : (m s : ℕ) → m < 160 → turns_left m s ≡ 1312 - m
unfolding turns_left
left_early m s l = rw (lt-ltb m 160 l)

left_late : (m s : ℕ) → 160 ≤ m → turns_left m s ≡ 12 * (256 - m) - s
unfolding turns_left
left_late m s h = rw (le-ltb m 160 h)

-- due with so many turns left: while they are more than 1,152, and then in each twelfth
unfoldable pub due_with : ℕ → Bool
due_with left = leb 1153 left || eqb (left % 12) 1

module _ (m s : ℕ) (good : good_counts m s ≡ true) where
  c : Counts m s
  c = counts_is m s good

  -- heard at a due poll: both are 0; not heard: one miss more
  pub due_counts : (heard : Bool) → is_due m s ≡ true → (misses_after m s heard ≡ cond heard 0 (m + 1)) × (slow_after m s ≡ 0)
  unfolding misses_after slow_after
  due_counts heard y = rw y (refl, refl)

  pub not_due : (heard : Bool) → is_due m s ≡ false → (misses_after m s heard ≡ m) × (slow_after m s ≡ s + 1)
  unfolding misses_after slow_after
  not_due heard n = rw n (refl, refl)

  -- the station is out in this turn exactly when one turn is left
  pub out_last : is_out m s false ≡ eqb (turns_left m s) 1
  unfolding is_out
  out_last = go (turning m s)
    where
      go : Turning m s → eqb (misses_after m s false) 256 ≡ eqb (turns_left m s) 1
      go (early l y) = rw ((due_counts false y).0, left_early m s l) (ne_eqb (m + 1) 256 (λ e. omega arith) ∙ sym (ne_eqb (1312 - m) 1 (λ e. omega arith)))
      go (waiting l ne n) = rw ((not_due false n).0, left_late m s l)
          (ne_eqb m 256 (λ e. omega (arith, c.few)) ∙ sym (ne_eqb (12 * (256 - m) - s) 1 (λ e. omega (arith, c.few, c.short))))
      go (late l e y) = rw ((due_counts false y).0, left_late m s l, e)
          (iff _ _ (λ h. eq-eqb (12 * (256 - m) - 11) 1 (omega (arith, eqb-true (m + 1) 256 h))) (λ h. eq-eqb (m + 1) 256 (omega (arith, c.few, eqb-true (12 * (256 - m) - 11) 1 h))))

  -- a silent turn that does not log it out leaves one turn less
  pub silent_left : is_out m s false ≡ false → turns_left (misses_after m s false) (slow_after m s) + 1 ≡ turns_left m s
  unfolding is_out
  silent_left n = go (turning m s)
    where
      next : m < 160 → turns_left (m + 1) 0 + 1 ≡ 1312 - m
      next l = by_test (ltb (m + 1) 160)
          (λ y. rw (left_early (m + 1) 0 (ltb-true (m + 1) 160 y)) (omega arith))
          (λ f. let h = ltb-false (m + 1) 160 f in rw (left_late (m + 1) 0 h) (omega arith))

      go : Turning m s → turns_left (misses_after m s false) (slow_after m s) + 1 ≡ turns_left m s
      go (early l y) = rw ((due_counts false y).0, (due_counts false y).1, left_early m s l) (next l)
      go (waiting l ne h) = rw ((not_due false h).0, (not_due false h).1, left_late m s l, left_late m (s + 1) l) (omega (arith, c.few, c.short))
      go (late l e y) = rw ((due_counts false y).0, (due_counts false y).1, left_late m s l, left_late (m + 1) 0 (omega arith), e) (omega (arith, c.few, eqb-false (m + 1) 256 (rw (due_counts false y).0 at n)))

  pub due_when : is_due m s ≡ due_with (turns_left m s)
  unfolding due_with
  due_when = go (turning m s)
    where
      go : Turning m s → is_due m s ≡ due_with (turns_left m s)
      go (early l y) = rw (y, left_early m s l, le-leb 1153 (1312 - m) (omega arith))
      go (waiting l ne n) = rw (n, left_late m s l, lt-leb 1153 (12 * (256 - m) - s) (omega arith))
          (sym (ne_eqb ((12 * (256 - m) - s) % 12) 1 (λ e. omega (arith, c.few, c.short))))
      go (late l e y) = rw (y, left_late m s l, lt-leb 1153 (12 * (256 - m) - s) (omega arith), e)
          (sym (eq-eqb ((12 * (256 - m) - 11) % 12) 1 (omega (arith, c.few))))

  -- a turn that does not log it out leaves counts in range
  pub turn_good : (heard : Bool) → is_out m s heard ≡ false → good_counts (misses_after m s heard) (slow_after m s) ≡ true
  unfolding is_out
  turn_good heard n = go (turning m s) heard n
    where
      due_good : is_due m s ≡ true → (h : Bool) → eqb (misses_after m s h) 256 ≡ false → good_counts (misses_after m s h) (slow_after m s) ≡ true
      due_good y h k = is_counts _ _ (record { few = few h k; short = rw (slow_zero y) (lit≤ tt); early = λ l. slow_zero y })
        where
          slow_zero : is_due m s ≡ true → slow_after m s ≡ 0
          slow_zero z = unfold slow_after in rw z

          few : (b : Bool) → eqb (misses_after m s b) 256 ≡ false → misses_after m s b ≤ 255
          few true k' = unfold misses_after in rw y (lit≤ tt)
          few false k' = omega (arith, c.few, (due_counts false y).0, eqb-false (misses_after m s false) 256 k')

      go : Turning m s → (h : Bool) → eqb (misses_after m s h) 256 ≡ false → good_counts (misses_after m s h) (slow_after m s) ≡ true
      go (early l y) h k = due_good y h k
      go (late l e y) h k = due_good y h k
      go (waiting l ne d) h k = rw ((not_due h d).0, (not_due h d).1)
          (is_counts m (s + 1) (record { few = c.few; short = omega (arith, c.short); early = λ b. absurd (omega arith) }))
