use Rattle.std.proofs.Common.{◌≡◌, ◌≤◌, length, take}
use Rattle.pages.proofs.Page.append_hex.Given as goal

abbrev pub invariant-loop-byte : goal.invariant-loop-byte
invariant-loop-byte l = (take l.fn.self.end l.self.room.now ≡ take l.fn.self.end l.fn.self.room.now) × (l.fn.self.end ≤ l.self.end) × (length l.self.room.now ≡ length l.fn.self.room.now) × (l.self.room.ghost_name ≡ l.fn.self.room.ghost_name)
