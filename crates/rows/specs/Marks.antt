-- Marks: a map of bits, 32 to a word, and the hash by which the bit of a key is chosen. No rule names these words.
use Rattle.std.specs.Prelude.{ℕ, ◌+◌, ◌*◌, ◌/◌, ◌%◌, ◌^◌, Bool, List, get_or, set}
use Rattle.std.specs.Int.Bits.{bit_or}
use Rattle.rows.specs.Numbers.{bit_at}

-- bit h is set
unfoldable pub marked : List ℕ → ℕ → Bool
marked map h = bit_at (get_or map (h / 32) 0) (h % 32)

-- the map with bit h set
unfoldable pub marking : List ℕ → ℕ → List ℕ
marking map h = set map (h / 32) (bit_or (get_or map (h / 32) 0) (2 ^ (h % 32)))

-- ten bits of a weighted sum. The weights were searched for: keys that hold a number in decimal, wherever it stands, and keys
-- that differ in one byte mostly have bits of their own. Nothing but speed rests on them
unfoldable pub hash : ℕ → ℕ → ℕ → ℕ → ℕ
hash a b c d = (811766591 * a + 735356845 * b + (227300033 * c + 244215329 * d)) / 4194304 % 1024
