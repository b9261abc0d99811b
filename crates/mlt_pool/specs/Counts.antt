-- What a pool is seen as: for each class, 12 to 28, how many of its blocks are home and how many are lent.
use Rattle.std.specs.Prelude.{◌≡◌, ◌≢◌, ℕ, ◌+◌, ◌-◌, ◌≤◌, List, sum, slice_index_or, slice_set, replicate}

-- each list has a number for the class 12, then one for the class 13, and so on
pub record Counts : Type 0 where
  pub home : List ℕ
  pub lent : List ℕ

-- the number of a class
abbrev pub at : ℕ → List ℕ → ℕ
at class numbers = slice_index_or numbers (class - 12) 0

-- the numbers, with n as that of a class
abbrev pub with_at : ℕ → ℕ → List ℕ → List ℕ
with_at class n numbers = slice_set numbers (class - 12) n

-- how many blocks of a class are home
abbrev pub home_of : Counts → ℕ → ℕ
home_of pool class = at class pool.home

-- how many blocks of a class are lent
abbrev pub lent_of : Counts → ℕ → ℕ
lent_of pool class = at class pool.lent

-- how many blocks of a class were reserved: each of them is home or lent
abbrev pub reserved_of : Counts → ℕ → ℕ
reserved_of pool class = home_of pool class + lent_of pool class

-- how many blocks are home, of all classes together
abbrev pub all_home : Counts → ℕ
all_home pool = sum pool.home

-- how many blocks are lent, of all classes together
abbrev pub all_lent : Counts → ℕ
all_lent pool = sum pool.lent

-- the pool with no block
abbrev pub no_blocks : Counts
no_blocks = record { home = replicate 17 0; lent = replicate 17 0 }

-- the pool with n more blocks of a class home
abbrev pub added : ℕ → ℕ → Counts → Counts
added class n pool = record { home = with_at class (home_of pool class + n) pool.home; lent = pool.lent }

-- the pool with n blocks of a class lent that were home
abbrev pub lent_out : ℕ → ℕ → Counts → Counts
lent_out class n pool = record {
  home = with_at class (home_of pool class - n) pool.home;
  lent = with_at class (lent_of pool class + n) pool.lent;
}

-- the pool with n blocks of a class home that were lent
abbrev pub brought : ℕ → ℕ → Counts → Counts
brought class n pool = record {
  home = with_at class (home_of pool class + n) pool.home;
  lent = with_at class (lent_of pool class - n) pool.lent;
}

-- of two pools, one block of a class is home in the first and lent in the second, and all else is alike
pub record IsOneLent (class : ℕ) (first second : Counts) : Type 0 where
  pub home : home_of second class + 1 ≡ home_of first class
  pub lent : lent_of second class ≡ lent_of first class + 1
  pub all : all_lent second ≡ all_lent first + 1
  pub others : (other : ℕ) → 12 ≤ other → other ≢ class → (home_of second other ≡ home_of first other) × (lent_of second other ≡ lent_of first other)
  pub reserved : (any : ℕ) → 12 ≤ any → reserved_of second any ≡ reserved_of first any

-- of two pools, the second has n more blocks of a class home, and all else is alike
pub record IsAdded (class n : ℕ) (first second : Counts) : Type 0 where
  pub home : home_of second class ≡ home_of first class + n
  pub lent : second.lent ≡ first.lent
  pub others : (other : ℕ) → 12 ≤ other → other ≢ class → home_of second other ≡ home_of first other
  pub reserved : reserved_of second class ≡ reserved_of first class + n
