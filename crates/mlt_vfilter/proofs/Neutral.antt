-- A neutral filter leaves each picture as it is.
use Rattle.std.proofs.Common.{◌≡◌, ℕ, ◌%◌, ◌≤◌, ◌==◌, true, false, List, length, get_or, refl, sym}
use Rattle.std.proofs.lemmas.Bool.{eqb-true}
use Rattle.std.proofs.lemmas.List.FromFn.{fill_by_all}
use Rattle.mlt_base.specs.Mixing.{lit, scaled}
use Rattle.mlt_kernel.proofs.Levels.{lit_same, either_same, scaled_same}
use Rattle.mlt_tree.specs.declared.filter.FilterStep.{FilterStep}
use Rattle.mlt_tree.specs.declared.filter.FilterStep.TheVariants.{Brightness, Greyscale, Invert, Mirror, Crop, Threshold, Sepia, Obscure, Opacity, SwapChannels, Volume, Mono, ChannelCopy, ChannelSwap, Silence}
use Rattle.mlt_tree.specs.Filters.{opacity, picture_filter}
use Rattle.mlt_vfilter.specs.Neutral.{is_neutral}
use Rattle.mlt_vfilter.proofs.Tables.{own_table}

-- at the level 65536 alphas stay
opacity_same : (level : ℕ) (xs : List ℕ) (k : ℕ) → level ≡ 65536 → get_or xs k 0 ≤ 255 → get_or xs k 0 ≡ opacity level xs k
opacity_same level xs k e le = rw e (either_same (k % 4 == 3) (lit 65536 (get_or xs k 0)) (get_or xs k 0) (get_or xs k 0) (lit_same (get_or xs k 0) le) refl)

pub left_as_is : (step : FilterStep) (width : ℕ) (xs : List ℕ) → ((k : ℕ) → get_or xs k 0 ≤ 255) → is_neutral step ≡ true → picture_filter step width xs ≡ xs
left_as_is (Brightness level) width xs bytes neutral = sym (fill_by_all (scaled level.0 xs) xs (length xs) 0 refl (λ k lt. scaled_same level.0 xs k (eqb-true level.0 65536 neutral) (bytes k)))
left_as_is (Opacity level) width xs bytes neutral = sym (fill_by_all (opacity level.0 xs) xs (length xs) 0 refl (λ k lt. opacity_same level.0 xs k (eqb-true level.0 65536 neutral) (bytes k)))
left_as_is (Volume level) width xs bytes neutral = sym (own_table xs)
left_as_is Mono width xs bytes neutral = sym (own_table xs)
left_as_is (ChannelCopy from to) width xs bytes neutral = sym (own_table xs)
left_as_is ChannelSwap width xs bytes neutral = sym (own_table xs)
left_as_is Silence width xs bytes neutral = sym (own_table xs)
left_as_is Greyscale width xs bytes neutral = let clash : false ≡ true = neutral in cc
left_as_is Invert width xs bytes neutral = let clash : false ≡ true = neutral in cc
left_as_is (Mirror vertical) width xs bytes neutral = let clash : false ≡ true = neutral in cc
left_as_is (Crop left right top bottom) width xs bytes neutral = let clash : false ≡ true = neutral in cc
left_as_is (Threshold midpoint) width xs bytes neutral = let clash : false ≡ true = neutral in cc
left_as_is Sepia width xs bytes neutral = let clash : false ≡ true = neutral in cc
left_as_is (Obscure size) width xs bytes neutral = let clash : false ≡ true = neutral in cc
left_as_is (SwapChannels order) width xs bytes neutral = let clash : false ≡ true = neutral in cc
