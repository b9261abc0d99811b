-- Filters of pixels that go by another formula than their definition.
use Rattle.std.proofs.Common.{◌≡◌, ℕ, zero, suc, ◌+◌, ◌*◌, ◌/◌, ◌%◌, ◌<◌, ◌≤◌, ◌==◌, min, if◌then◌else◌, ◌⊎◌, inl, inr, List, [], ◌∷◌, All, length, get_or, refl, ap, arith}
use Rattle.std.proofs.lemmas.Bool.{cases_lt}
use Rattle.std.proofs.lemmas.List.{get_or_past}
use Rattle.mlt_base.specs.Mixing.{table}
use Rattle.mlt_kernel.proofs.Levels.{scaled_held}
use Rattle.mlt_tree.specs.Filters.{opacity, swapchannels}
use Rattle.mlt_vfilter.specs.Pixels.{channel, pixel_of, pixelwise, faded, reordered}
use Rattle.mlt_vfilter.proofs.Tables.{retabled}

same_table : (F G : List ℕ → ℕ → ℕ) (xs : List ℕ) → ((k : ℕ) → F xs k ≡ G xs k) → table (length xs) (F xs) ≡ table (length xs) (G xs)
same_table F G xs same = retabled (F xs) (G xs) (length xs) (table (length xs) (F xs)) refl same

-- a level may be held to the greatest one
pub held_row : (level : ℕ) (xs : List ℕ) → table (length xs) (pixelwise (faded (min level 16777216)) xs) ≡ table (length xs) (opacity level xs)
held_row level xs =
    same_table (pixelwise (faded (min level 16777216))) (opacity level) xs
    (λ k. ap (λ y. if k % 4 == 3 then y else get_or xs k 0) (scaled_held level (min level 16777216) (get_or xs k 0 ∷ []) 0 refl))

-- each number of an order is a channel's
named : (order : List ℕ) → All (λ channel. channel < 4) order → (c : ℕ) → get_or order c 0 < 4
named order range c = by (cases_lt c (length order)) where
  by : (c < length order) ⊎ (length order ≤ c) → get_or order c 0 < 4
  by (inl lt) = range c 0 lt
  by (inr le) = omega (arith, get_or_past order c 0 le)

-- channel c of pixel p
channel_at : (xs : List ℕ) (p c : ℕ) → c < 4 → channel (pixel_of xs p) c ≡ get_or xs (p * 4 + c) 0
channel_at xs p zero lt = ap (λ j. get_or xs j 0) (omega arith)
channel_at xs p (suc zero) lt = refl
channel_at xs p (suc (suc zero)) lt = refl
channel_at xs p (suc (suc (suc zero))) lt = refl
channel_at xs p (suc (suc (suc (suc c)))) lt = absurd (omega arith)

pub reordered_is : (order : List ℕ) → All (λ channel. channel < 4) order → (xs : List ℕ) (k : ℕ) → pixelwise (reordered order) xs k ≡ swapchannels order xs k
reordered_is order range xs k = channel_at xs (k / 4) (get_or order (k % 4) 0) (named order range (k % 4))

pub reordered_row : (order xs : List ℕ) → All (λ channel. channel < 4) order → table (length xs) (pixelwise (reordered order) xs) ≡ table (length xs) (swapchannels order xs)
reordered_row order xs range = same_table (pixelwise (reordered order)) (swapchannels order) xs (reordered_is order range xs)
