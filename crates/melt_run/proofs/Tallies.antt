-- Counts of faults that rise, and the accounts of a run.
use Rattle.std.proofs.Common.{ℕ, ◌≡◌, ◌+◌, ◌<◌, ◌≤◌, refl, sym, ap, subst, ◌∙◌, inl, inr, arith, add-one}
use Rattle.mlt_host.specs.Host.{Rose}
use Rattle.mlt_tree.specs.Show.{Run, loads_to}
use Rattle.melt_run.specs.Play.{full_tally, IsStopped}
use Rattle.melt_run.specs.declared.status.Tally.{Tally}

-- what rose from later on rose from before
pub rose_since : (before between now : ℕ) → before ≤ between → Rose between now → Rose before now
rose_since before between now h (inl rose) = inl (omega arith)
rose_since before between now h (inr end) = inr end

pub stopped_is : (run : Run) (done loads : ℕ) (tally : Tally) → done < run.frames → loads ≡ loads_to run done → tally ≡ record { frames = done; loads = loads; handed = done + 1; taken = done + 1; destroyed = 0 } → IsStopped run tally
stopped_is run done loads tally short exact is =
    subst (IsStopped run) (sym is) (record { short = short; loads = exact; taken = refl; handed = omega arith; destroyed = omega arith })

pub full_is : (run : Run) (count loads : ℕ) (tally : Tally) → loads ≡ loads_to run count → tally ≡ record { frames = count; loads = loads; handed = count; taken = count; destroyed = 0 } → tally ≡ full_tally run count
full_is run count loads tally exact is =
    is ∙ ap (λ n. record { frames = count; loads = n; handed = count; taken = count; destroyed = 0 }) exact

-- one position more
pub loads_more : (run : Run) (count loads more : ℕ) → loads ≡ loads_to run count → more ≡ run.loads count → loads + more ≡ loads_to run (count + 1)
loads_more run count loads more exact is = rw (add-one) (ap (λ n. n + more) exact ∙ ap (λ n. loads_to run count + n) is)
