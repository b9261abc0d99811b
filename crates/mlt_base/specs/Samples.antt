-- How many groups of samples, 48,000 a second, come to the frames of a rate of num/den.
use Rattle.std.specs.Prelude.{ℕ, ◌+◌, ◌-◌, ◌*◌, ◌/◌}

-- before frame n, rounded down
abbrev pub samples_to : ℕ → ℕ → ℕ → ℕ
samples_to num den n = n * 48000 * den / num

-- in frame n
abbrev pub samples : ℕ → ℕ → ℕ → ℕ
samples num den n = samples_to num den (n + 1) - samples_to num den n

-- in one frame, rounded up
abbrev pub most_samples : ℕ → ℕ → ℕ
most_samples num den = (48000 * den + num - 1) / num
