-- One poll turn, on plain numbers: is the station due, and what becomes of its misses and slow turns.
use Rattle.std.specs.Prelude.{ℕ, ◌+◌, ◌-◌, ◌*◌, Bool, cond, ◌||◌, eqb, ltb}
use Rattle.who.specs.declared.Turn.{Turn}

-- with misses below 160 it is due; from 160 on only where slow turns stand at 11
unfoldable pub is_due : ℕ → ℕ → Bool
is_due misses slow = ltb misses 160 || eqb slow 11

-- heard at a due poll: misses become 0; not heard at a due poll: misses + 1
unfoldable pub misses_after : ℕ → ℕ → Bool → ℕ
misses_after misses slow heard = cond (is_due misses slow) (cond heard 0 (misses + 1)) misses

-- a turn that is not due adds 1 to slow turns; at a due one they are 0
unfoldable pub slow_after : ℕ → ℕ → ℕ
slow_after misses slow = cond (is_due misses slow) 0 (slow + 1)

-- at 256 misses it is logged out
unfoldable pub is_out : ℕ → ℕ → Bool → Bool
is_out misses slow heard = eqb (misses_after misses slow heard) 256

unfoldable pub turn_of : ℕ → ℕ → Bool → Turn
turn_of misses slow heard = record {
  due = is_due misses slow;
  out = is_out misses slow heard;
  misses = misses_after misses slow heard;
  slow = slow_after misses slow;
}

-- how many turns are left to a station that stays silent: it is out after 1,312 turns from its login on; with misses below 160 each
-- turn is one of them, from 160 on each of the misses to 256 takes twelve
unfoldable pub turns_left : ℕ → ℕ → ℕ
turns_left misses slow = cond (ltb misses 160) (1312 - misses) (12 * (256 - misses) - slow)
