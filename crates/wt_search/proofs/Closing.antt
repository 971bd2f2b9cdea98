-- A chain that is closed where images grow has no fault.
use Rattle.std.proofs.Common.{◌≡◌, ◌+◌, ℕ, List, [], ◌∷◌, length, drop, Option, None, Some, is_none, if◌then◌else◌, refl, sym, ◌∙◌, ap}
use Rattle.wt_grid.proofs.First.{first_found}
use Rattle.wt_step.specs.declared.raw.RawLink.{RawLink}
use Rattle.wt_step.specs.Links.{fine_of}
use Rattle.wt_chain.specs.declared.raw.Refusal.{Refusal}
use Rattle.wt_chain.specs.declared.raw.End.TheVariants.{Loop}
use Rattle.wt_chain.specs.Sets.{IsRenamed, first_count}
use Rattle.wt_chain.specs.Faults.{enough, growth_fault, least_expansion, loop_fault, end_fault}

grown_by : (f : Option Refusal) (n e : ℕ) → (if is_none f then Some n else None) ≡ Some e → (f ≡ None) × (n ≡ e)
grown_by None n e h = (refl, cc)
grown_by (Some x) n e h = absurd cc

grown : (loop : List RawLink) (renaming : List ℕ) (n e : ℕ) → least_expansion loop renaming n ≡ Some e → growth_fault loop renaming e n ≡ None
grown loop renaming n e h =
    let f = first_found (enough loop renaming n) 0 n e h in
    let g = grown_by (growth_fault loop renaming (f.0 + 1) n) (f.0 + 1) e f.2 in
    ap (λ k. growth_fault loop renaming k n) (sym g.1) ∙ g.0

loop_closed : (loop : List RawLink) (renaming : List ℕ) (e : ℕ) → IsRenamed loop renaming → least_expansion loop renaming (first_count loop) ≡ Some e → loop_fault loop renaming e ≡ None
loop_closed [] renaming e r h = absurd r
loop_closed (link ∷ links) renaming e r h = rw r (grown (link ∷ links) renaming (length (fine_of link).tiles) e h)

pub end_closed : (links : List RawLink) (start : ℕ) (renaming : List ℕ) (e : ℕ) → IsRenamed (drop start links) renaming
    → least_expansion (drop start links) renaming (first_count (drop start links)) ≡ Some e → end_fault links (Loop start renaming e) ≡ None
end_closed links start renaming e r h = loop_closed (drop start links) renaming e r h
