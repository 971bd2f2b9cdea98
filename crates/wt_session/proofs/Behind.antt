-- Steps behind a chain.
use Rattle.std.proofs.Common.{arith, ◌≡◌, ℕ, ◌<◌, Bool, true, List, length, slice_get, Some, nat_lt, sym, ap, ◌∙◌, subst}
use Rattle.std.specs.Prelude.{Result, Ok, Err, IfOk, Contains}
use Rattle.std.proofs.lemmas.Bool.Decides.{nat_tests}
use Rattle.std.proofs.lemmas.Option.{slice_get_within, get_or_from_slice_get}
use Rattle.wt_tile.specs.declared.tile.TileList.{TileList}
use Rattle.wt_step.specs.declared.raw.RawStep.{RawStep}
use Rattle.wt_step.specs.declared.raw.RawLink.{RawLink}
use Rattle.wt_chain.specs.declared.raw.RawChain.{RawChain}
use Rattle.wt_chain.specs.declared.raw.End.{End}
use Rattle.wt_chain.specs.declared.raw.End.TheVariants.{Open}
use Rattle.wt_chain.specs.Sets.{set_at, last_set}
use Rattle.wt_marker.specs.declared.end.DeriveEnd.{DeriveEnd}
use Rattle.wt_marker.specs.Derived.{Plan, MayAnswerStep}
use Rattle.wt_search.proofs.Ends.{set_behind}
use Rattle.wt_session.specs.declared.words.derive.Wanted.{Wanted}
use Rattle.wt_session.specs.Replies.{Reply}
use Rattle.wt_session.specs.Derive.{no_set, IsStepOf, IsBehindAll, IsBehind}

-- the set behind the last step doesn't depend on what stands before the first
pub same_last : (set other : TileList) (links : List RawLink) → 0 < length links → set_at links (length links) ≡ Some set → set ≡ last_set other links
same_last set other links some e = let h = set_behind other links some in let both : Some set ≡ Some (last_set other links) = sym e ∙ h in cc

-- a step behind the last of an open chain
pub behind_open : (n : List ℕ) (set : TileList) (links : List RawLink) (w : Wanted) (end : End) (reply : Reply) → end ≡ Open → 0 < length links → length links < 32
    → set_at links (length links) ≡ Some set → IsStepOf n set links w reply → IsBehind n links w end reply
behind_open n set links w end reply is some room e p =
    let few : nat_lt (length links) 32 ≡ true = grind (arith, nat_tests, room) in
    subst (λ (x : End). IsBehind n links w x reply) (sym is)
    (subst (λ (b : Bool). IsBehindAll n links w b reply) (sym few) (subst (λ (s : TileList). IsStepOf n s links w reply) (same_last set no_set links some e) p))

-- a class that has a number is among all
pub contained : (cs : List (List ℕ)) (j : ℕ) (c : List ℕ) → slice_get cs j ≡ Some c → Contains cs c
contained cs j c e = (j, slice_get_within cs j c e, get_or_from_slice_get cs j c c e)

-- a step that was derived takes apart the plan's set
pub step_fine : (p : Plan) (budget : ℕ) (answer : Result RawStep DeriveEnd) (step : RawStep) → answer ≡ Ok step → MayAnswerStep p budget answer → step.fine ≡ p.fine
step_fine p budget (Ok s) step e m = let same : s ≡ step = cc in ap (λ (x : RawStep). x.fine) (sym same) ∙ ap (λ (x : RawStep). x.fine) m.0
step_fine p budget (Err x) step e m = absurd cc

-- the steps of a chain that was open
pub reopened : (c : RawChain) (answer : Result (List RawLink) RawChain) (links : List RawLink) → answer ≡ Ok links → IfOk answer (λ (chain : List RawLink). (c.end ≡ Open) × (chain ≡ c.steps)) → (c.end ≡ Open) × (links ≡ c.steps)
reopened c (Ok chain) links e h = let same : chain ≡ links = cc in (h.0, sym same ∙ h.1)
reopened c (Err x) links e h = absurd cc
