-- A set of detector channels as a number: a bit for each channel, the lowest for channel 1.
use Rattle.std.specs.Prelude.{ℕ, zero, suc, ◌-◌, ◌/◌, ◌%◌, ◌^◌, Bool, false, cond, ◌&&◌, ◌||◌, ◌==◌, bit_or, bit_xor}
use Rattle.controller_log.specs.Detectors.{within}
use Rattle.controller_log.specs.Limits.{channels}

-- a number from 1 to 64
abbrev pub channel : ℕ → Bool
channel c = within 1 channels c

-- the bit of a channel, or 0
abbrev pub bit : ℕ → ℕ
bit c = cond (channel c) (2 ^ (c - 1)) 0

-- a channel is in the set
unfoldable pub holds : ℕ → ℕ → Bool
holds q c = channel c && q / 2 ^ (c - 1) % 2 == 1

-- the set with a channel
unfoldable pub entered : ℕ → ℕ → ℕ
entered q c = cond (channel c) (bit_or q (2 ^ (c - 1))) q

-- the set without a channel
unfoldable pub removed : ℕ → ℕ → ℕ
removed q c = cond (holds q c) (bit_xor q (2 ^ (c - 1))) q

-- one of the numbers 1 to n passes a test
abbrev pub one_upto : (ℕ → Bool) → ℕ → Bool
one_upto p zero = false
one_upto p (suc n) = p (suc n) || one_upto p n

-- some channel passes a test
unfoldable pub some_channel : (ℕ → Bool) → Bool
some_channel p = one_upto p channels
