-- Lists of registers that are read from a function: what one change makes of them.
use Rattle.std.proofs.Common.{◌≡◌, ◌≢◌, ℕ, zero, suc, ◌+◌, ◌-◌, ◌<◌, ◌∷◌, nat_eq, Bool, if◌then◌else◌, Option, None, Some, get_or, set, drop, refl, sym, ap, ◌∙◌, inl, inr, ◌⊎◌, arith}
use Rattle.std.proofs.lemmas.Bool.{cases_eq, eq-eqb, ne_eqb}
use Rattle.mlt_eval.specs.Down.{down, IsPut, IsMerged}
use Rattle.mlt_tree.specs.Meaning.{merged_into}

module _ {A : Type 0} where
  -- functions that agree below n give the same list
  pub down_same : (f g : ℕ → A) (n : ℕ) → ((j : ℕ) → j < n → g j ≡ f j) → down g n ≡ down f n
  down_same f g zero same = refl
  down_same f g (suc n) same =
      let here : g n ≡ f n = same n (omega arith) in
      let rest : down g n ≡ down f n = down_same f g n (λ j lt. same j (omega (arith, lt))) in
      cc

  -- the element so deep
  pub get-down : (f : ℕ → A) (n k depth : ℕ) (d : A) → n ≡ k + depth + 1 → get_or (down f n) depth d ≡ f k
  get-down f zero k depth d e = absurd (omega (arith, e))
  get-down f (suc n) k zero d e = let same : n ≡ k = omega (arith, e) in ap f same
  get-down f (suc n) k (suc depth) d e = get-down f n k depth d (omega (arith, e))

  -- without the first ones
  pub drop-down : (f : ℕ → A) (n k count : ℕ) → n ≡ k + count → drop count (down f n) ≡ down f k
  drop-down f n k zero e = let same : n ≡ k = omega (arith, e) in ap (down f) same
  drop-down f zero k (suc count) e = absurd (omega (arith, e))
  drop-down f (suc n) k (suc count) e = drop-down f n k count (omega (arith, e))

  -- one more on top
  pub down_new : (f g : ℕ → A) (n : ℕ) (x : A) → IsPut f g n x → down g (n + 1) ≡ x ∷ down f n
  down_new f g n x put =
      let more : down g (n + 1) ≡ g n ∷ down g n = (let e : n + 1 ≡ suc n = omega arith in ap (down g) e) in
      let rest : down g n ≡ down f n = down_same f g n (λ j lt. put.others j (λ e. omega (arith, lt, e))) in
      let here = put.here in cc

  -- one changed, so deep
  pub down_put : (f g : ℕ → A) (n k depth : ℕ) (x : A) → n ≡ k + depth + 1 → IsPut f g k x → down g n ≡ set (down f n) depth x
  down_put f g zero k depth x e put = absurd (omega (arith, e))
  down_put f g (suc n) k zero x e put =
      let same : n ≡ k = omega (arith, e) in
      let here : g n ≡ x = ap g same ∙ put.here in
      let rest : down g n ≡ down f n = down_same f g n (λ j lt. put.others j (λ is. omega (arith, lt, is, same))) in
      cc
  down_put f g (suc n) k (suc depth) x e put =
      let here : g n ≡ f n = put.others n (λ is. omega (arith, e, is)) in
      let rest : down g n ≡ set (down f n) depth x = down_put f g n k depth x (omega (arith, e)) put in
      cc

  -- of the top ones, one is kept
  pub down_kept : (f g : ℕ → A) (n base row count : ℕ) (d : A) → n ≡ base + count → row < count → g base ≡ f (base + row)
      → ((j : ℕ) → j < base → g j ≡ f j) → down g (base + 1) ≡ get_or (down f n) (count - 1 - row) d ∷ drop count (down f n)
  down_kept f g n base row count d e lt kept below =
      let more : down g (base + 1) ≡ g base ∷ down g base = (let e : base + 1 ≡ suc base = omega arith in ap (down g) e) in
      let rest : down g base ≡ down f base = down_same f g base below in
      let first : get_or (down f n) (count - 1 - row) d ≡ f (base + row) = get-down f n (base + row) (count - 1 - row) d (omega (arith, e, lt)) in
      let last : drop count (down f n) ≡ down f base = drop-down f n base count e in
      cc

  -- f but for x at k
  abbrev but : (ℕ → A) → (k : ℕ) → A → ℕ → A
  but f k x j = if nat_eq j k then x else f j

  but_is : (f : ℕ → A) (k : ℕ) (x : A) → IsPut f (but f k x) k x
  but_is f k x = record {
    here = ap (λ (t : Bool). if t then x else f k) (eq-eqb k k refl);
    others = λ j other. ap (λ (t : Bool). if t then x else f j) (ne_eqb j k other);
  }

  -- two changed, one after the other, give what g gives below n
  alike : (f first second g : ℕ → A) (n i j : ℕ) (x y : A) → IsPut f first i x → IsPut first second j y → g i ≡ x → g j ≡ y
      → ((k : ℕ) → k < n → k ≢ i → k ≢ j → g k ≡ f k) → (k : ℕ) → k < n → (k ≡ j) ⊎ (k ≢ j) → (k ≡ i) ⊎ (k ≢ i) → g k ≡ second k
  alike f first second g n i j x y once twice here there others k lt (inl is) any = ap g is ∙ there ∙ sym twice.here ∙ ap second (sym is)
  alike f first second g n i j x y once twice here there others k lt (inr other) (inl is) =
      ap g is ∙ here ∙ sym once.here ∙ ap first (sym is) ∙ sym (twice.others k other)
  alike f first second g n i j x y once twice here there others k lt (inr other) (inr differs) =
      others k lt differs other ∙ sym (once.others k differs) ∙ sym (twice.others k other)

  -- two changed, so deep; above n all may differ
  pub down_both : (f g : ℕ → A) (n i j a b : ℕ) (x y : A) → n ≡ i + a + 1 → n ≡ j + b + 1 → g i ≡ x → g j ≡ y
      → ((k : ℕ) → k < n → k ≢ i → k ≢ j → g k ≡ f k) → down g n ≡ set (set (down f n) a x) b y
  down_both f g n i j a b x y at_i at_j here there others =
      let once = but_is f i x in let twice = but_is (but f i x) j y in
      down_same (but (but f i x) j y) g n (λ k lt. alike f (but f i x) (but (but f i x) j y) g n i j x y once twice here there others k lt (cases_eq k j) (cases_eq k i))
      ∙ down_put (but f i x) (but (but f i x) j y) n j b y at_j twice
      ∙ ap (λ l. set l b y) (down_put f (but f i x) n i a x at_i once)

-- two are merged, so deep
module _ {A : Type 0} (merge : Option A → A → A) (f g : ℕ → Option A) (n i j a b : ℕ) where
  pub down_merged : (x : Option A) → n ≡ i + a + 1 → n ≡ j + b + 1 → x ≡ f j → IsMerged n merge f g i j x
      → down g n ≡ merged_into merge a b (down f n) (get_or (down f n) b None)
  down_merged None at_i at_j is merged =
      let nothing : get_or (down f n) b None ≡ None = get-down f n j b None at_j ∙ sym is in
      down_same f g n merged ∙ sym (ap (merged_into merge a b (down f n)) nothing)
  down_merged (Some z) at_i at_j is merged =
      let above : get_or (down f n) b None ≡ Some z = get-down f n j b None at_j ∙ sym is in
      let under : get_or (down f n) a None ≡ f i = get-down f n i a None at_i in
      down_both f g n i j a b (Some (merge (f i) z)) None at_i at_j merged.into merged.gone merged.others
      ∙ ap (λ (x : Option A). set (set (down f n) a (Some (merge x z))) b None) (sym under)
      ∙ sym (ap (merged_into merge a b (down f n)) above)
