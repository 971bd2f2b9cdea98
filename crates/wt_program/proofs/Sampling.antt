-- What is known of a chain that is found for a sample.
use Rattle.std.proofs.Common.{arith, ◌≡◌, ◌⊎◌, ◌≤◌, ◌<◌, ◌+◌, ◌-◌, ◌*◌, ◌/◌, ◌%◌, get_or, mul_comm, ℕ, List, [], ◌∷◌, length, slice_get, Bool, true, refl, sym, ap, subst, inl, inr, ◌∙◌}
use Rattle.std.specs.Prelude.{Option, None, Some, Result, Ok, Err, IfOk, nat_le, ◌&&◌, option_map, if◌then◌else◌}
use Rattle.std.proofs.lemmas.Bool.{cases_lt}
use Rattle.std.proofs.lemmas.Bool.Decides.{nat_tests}
use Rattle.std.proofs.lemmas.List.{get_or_past}
use Rattle.std.proofs.lemmas.Nat.{div-add-mod'}
use Rattle.std.proofs.Math.Nat.{mod-lt, div-lt_iff_lt-mul}
use Rattle.wt_grid.specs.declared.axis.Axis.{Axis}
use Rattle.wt_grid.specs.declared.axis.Axis.TheVariants.{One, Two}
use Rattle.wt_grid.specs.First.{or_else}
use Rattle.wt_grid.specs.Grid.{Grid, IsGrid, along, across}
use Rattle.wt_grid.specs.Parts.{AllBelow, core}
use Rattle.wt_grid.specs.Limits.{is_side}
use Rattle.wt_tile.specs.declared.tile.TileList.{TileList}
use Rattle.wt_tile.specs.Sets.{set_fault}
use Rattle.wt_tile.proofs.Sizes.{few_tiles}
use Rattle.wt_pattern.specs.declared.fault.Fault.{Fault}
use Rattle.wt_pattern.specs.Validity.{first_fault}
use Rattle.wt_pattern.specs.Patterns.{IsPattern}
use Rattle.wt_pattern.proofs.FaultLaws.{no_fault}
use Rattle.wt_step.specs.declared.raw.RawStep.{RawStep}
use Rattle.wt_step.specs.declared.raw.RawLink.{RawLink}
use Rattle.wt_step.specs.declared.raw.RawLink.TheVariants.{Marker, Restrict}
use Rattle.wt_step.specs.declared.coarse.DesubFault.{DesubFault}
use Rattle.wt_step.specs.declared.coarse.DesubFault.TheVariants.{NotValid, TooSmall}
use Rattle.wt_step.specs.declared.coarse.DesubFault.TheVariants as desub
use Rattle.wt_step.specs.Links.{fine_of}
use Rattle.wt_step.specs.Coarse.{IsDesubstitution, has_margin, desub_fault}
use Rattle.wt_chain.specs.declared.raw.RawChain.{RawChain}
use Rattle.wt_chain.specs.declared.raw.End.{End}
use Rattle.wt_chain.specs.declared.raw.End.TheVariants.{Loop}
use Rattle.wt_chain.specs.Faults.{chain_fault}
use Rattle.wt_chain.specs.Limits.{AreSlimSteps}
use Rattle.wt_chain.specs.Sets.{BeginsWith}
use Rattle.wt_chain.specs.Looped.{IsLooped}
use Rattle.wt_chain.proofs.Goodness.{good}
use Rattle.wt_scale.specs.Existence.{IsPatternOf}
use Rattle.wt_scale.specs.Pick.{pick}
use Rattle.wt_scale.proofs.EverySize.{valid_pick}
use Rattle.wt_expand.specs.declared.fault.RowFault.{RowFault}
use Rattle.wt_expand.specs.declared.fault.ExpandFault.{ExpandFault}
use Rattle.wt_expand.specs.declared.fault.ExpandFault.TheVariants.{OutOfMemory}
use Rattle.wt_expand.specs.Expansion.{pick_fault, end_pick_fault, end_pick, pick_of}
use Rattle.wt_expand.specs.Wholes.{IsCause}
use Rattle.wt_search.specs.declared.end.SearchEnd.{SearchEnd}
use Rattle.wt_search.specs.Found.{found, MayAnswerSearch}
use Rattle.wt_search.proofs.Sound.{sound_found}
use Rattle.wt_session.specs.Levels.{IsEndReply}
use Rattle.wt_session.specs.Replies.{stops}
use Rattle.wt_program.specs.declared.reply.Reply.{Reply}
use Rattle.wt_program.specs.declared.reply.Reply.TheVariants.{Answered}
use Rattle.wt_program.specs.declared.sample.TheConstants.{LEVELS}
use Rattle.wt_program.specs.Scripts.{by_status}
use Rattle.wt_program.specs.Samples.{IsU, u_question, sample_text, IsSampling, IsSampled, IsEnded, IsSampleReply}
use Rattle.wt_program.proofs.FoundLoops.{AreMarkers, IsMarkerLoop, found_loop}

side_true : (n : ℕ) → 5 ≤ n → n ≤ 4096 → is_side n ≡ true
side_true n some few = grind (arith, nat_tests, some, few)

-- a pattern of five cells each way, or more, has the margin of a marker step of radius 1
margin_true : (axis : Axis) (g : Grid) (n : ℕ) → 5 ≤ n → g.width ≡ n → g.height ≡ n → (nat_le 3 (along axis (core 1 g)) && nat_le 1 (across axis (core 1 g))) ≡ true
margin_true One g n some wide high =
    let a : nat_le 3 (g.width - (1 + 1)) ≡ true = grind (arith, nat_tests, some, wide) in
    let b : nat_le 1 (g.height - (1 + 1)) ≡ true = grind (arith, nat_tests, some, high) in
    ap (λ (p : Bool). p && nat_le 1 (g.height - (1 + 1))) a ∙ b
margin_true Two g n some wide high =
    let a : nat_le 3 (g.height - (1 + 1)) ≡ true = grind (arith, nat_tests, some, high) in
    let b : nat_le 1 (g.width - (1 + 1)) ≡ true = grind (arith, nat_tests, some, wide) in
    ap (λ (p : Bool). p && nat_le 1 (g.width - (1 + 1))) a ∙ b

has_room : (s : RawStep) (g : Grid) (n : ℕ) → s.radius ≡ 1 → 5 ≤ n → g.width ≡ n → g.height ≡ n → has_margin (Marker s) g ≡ true
has_room s g n one some wide high =
    subst (λ (r : ℕ). (nat_le 3 (along s.axis (core r g)) && nat_le 1 (across s.axis (core r g))) ≡ true) (sym one) (margin_true s.axis g n some wide high)

-- it is taken apart, where it is valid
is_apart : (s : RawStep) (g : Grid) (n : ℕ) → s.radius ≡ 1 → 5 ≤ n → IsPatternOf s.fine.tiles n n g → desub_fault (Marker s) g ≡ None
is_apart s g n one some p =
    let fault : first_fault s.fine.tiles g ≡ None = no_fault s.fine.tiles g p.pattern.2 in
    let room : has_margin (Marker s) g ≡ true = has_room s g n one some p.wide p.high in
    ap (λ (f : Option Fault). or_else (option_map NotValid f) (if has_margin (Marker s) g then None else Some TooSmall)) fault
    ∙ ap (λ (b : Bool). if b then None else Some TooSmall) room

pub sampling : (set : TileList) (c : RawChain) (n : ℕ) → set_fault set ≡ None → 5 ≤ n → n ≤ 4096 → found u_question set 8 ≡ Ok c → IsSampling n set c
sampling set c n set_good some few e = by c.steps refl loop.markers sound.1
  where
    sound : (chain_fault c ≡ None) × BeginsWith set c.steps × AreSlimSteps c.steps
    sound =
        let small : 1 ≤ 4 = omega arith in
        let levels : 8 ≤ 32 = omega arith in
        sound_found u_question set small set_good 8 c levels e

    loop : IsMarkerLoop 1 c
    loop = found_loop u_question set 8 c e

    picked : pick_of c n n ≡ pick c.steps loop.start loop.renaming loop.expansion n n
    picked = ap (λ (end : End). end_pick c.steps end n n) loop.ends

    made : pick_fault c n n ≡ None
    made =
        let sides : end_pick_fault (Loop loop.start loop.renaming loop.expansion) n n ≡ None = rw (side_true n some few) refl in
        ap (λ (end : End). end_pick_fault end n n) loop.ends ∙ sides

    by : (steps : List RawLink) → c.steps ≡ steps → AreMarkers 1 steps → BeginsWith set steps → IsSampling n set c
    by [] same h b = absurd (let g = good c sound.0 in let s = g.some in let z = ap length same in omega arith)
    by (Restrict s ∷ links) same h b = absurd h
    by (Marker s ∷ links) same h b =
        let p = valid_pick c (good c sound.0) loop.start loop.expansion loop.renaming loop.ends (Marker s) links same n n (omega arith) (omega arith) in
        let q = subst (IsPatternOf s.fine.tiles n n) (sym picked) p in
        record {
          loop = record { start = loop.start; renaming = loop.renaming; expansion = loop.expansion; ends = loop.ends; first = Marker s; later = links; begins = same };
          fine = b;
          valid = subst (λ (l : TileList). IsPatternOf l.tiles n n (pick_of c n n)) b q;
          made = made;
          apart = is_apart s (pick_of c n n) n h.0 some q;
        }

-- The steps of the code.

pub some_steps : (n : ℕ) (set : TileList) (c : RawChain) → IsSampling n set c → 0 < length c.steps
some_steps n set c s = let z = ap length s.loop.begins in omega (arith, z)

-- the chain's first step
first_link : (n : ℕ) (set : TileList) (c : RawChain) (s : IsSampling n set c) (l : RawLink) → slice_get c.steps 0 ≡ Some l → s.loop.first ≡ l
first_link n set c s l e =
    let h : Some s.loop.first ≡ Some l = sym (ap (λ (links : List RawLink). slice_get links 0) s.loop.begins) ∙ e in
    cc h

pub step_pattern : (n : ℕ) (set : TileList) (c : RawChain) (l : RawLink) (p : Grid) → IsSampling n set c → slice_get c.steps 0 ≡ Some l → p ≡ pick_of c n n
    → IsPattern (fine_of l).tiles p
step_pattern n set c l p s e same =
    let one : fine_of l ≡ set = sym (ap fine_of (first_link n set c s l e)) ∙ s.fine in
    subst (λ (g : Grid). IsPattern (fine_of l).tiles g) (sym same) (subst (λ (t : TileList). IsPattern t.tiles (pick_of c n n)) (sym one) s.valid.pattern)

-- each cell of a rectangle in which all are below a number, and 0 past the last
cells_below : (m : ℕ) (g : Grid) → 0 < m → IsGrid g → AllBelow m g → (k : ℕ) → get_or g.cells k 0 < m
cells_below m g some grid all k = elim (cases_lt k (length g.cells)) [
  | inl lt ↦
      let wide = grid.wide in
      let whole : length g.cells ≡ g.width * g.height = grid.whole in
      let x : k % g.width < g.width = mod-lt k (omega arith) in
      let y : k / g.width < g.height = (div-lt_iff_lt-mul (omega arith)).1 (let flip : g.height * g.width ≡ g.width * g.height = mul_comm g.height g.width in omega (arith, lt, whole, flip)) in
      let e : k / g.width * g.width + k % g.width ≡ k = div-add-mod' k g.width in
      subst (λ (i : ℕ). get_or g.cells i 0 < m) e (all (k % g.width) (k / g.width) x y)
  | inr le ↦ rw (get_or_past g.cells k 0 le) some
]

-- the cells of the pick are numbers of at most 256 tiles
pub step_cells : (n : ℕ) (set : TileList) (c : RawChain) (p : Grid) → IsSampling n set c → set_fault set ≡ None → p ≡ pick_of c n n → (k : ℕ) → get_or p.cells k 0 < 256
step_cells n set c p s good same k =
    let size = few_tiles set good in
    let some = size.0 in
    let few = size.1 in
    let here : get_or (pick_of c n n).cells k 0 < length set.tiles = cells_below (length set.tiles) (pick_of c n n) (omega arith) s.valid.pattern.0 s.valid.pattern.1 k in
    subst (λ (g : Grid). get_or g.cells k 0 < 256) (sym same) (omega arith)

pub step_apart : (n : ℕ) (set : TileList) (c : RawChain) (l : RawLink) (p : Grid) → IsSampling n set c → slice_get c.steps 0 ≡ Some l → p ≡ pick_of c n n
    → desub_fault l p ≡ None
step_apart n set c l p s e same =
    subst (λ (g : Grid). desub_fault l g ≡ None) (sym same) (subst (λ (k : RawLink). desub_fault k (pick_of c n n) ≡ None) (first_link n set c s l e) s.apart)

pub sampled_as : (n : ℕ) (set : TileList) (c : RawChain) (l : RawLink) (p q : Grid) (end : End) (tiles : ℕ) (items text : List ℕ) (reply : Reply)
    → IsSampling n set c → slice_get c.steps 0 ≡ Some l → p ≡ pick_of c n n → IsDesubstitution l p q → end ≡ c.end → tiles ≡ length set.tiles
    → items ≡ sample_text n end tiles p q → text ≡ items → reply ≡ Answered text → IsSampled n set c reply
sampled_as n set c l p q end tiles items text reply s e same is ends size told made said = record {
  loop = s.loop;
  valid = s.valid;
  coarse = q;
  apart = subst (λ (g : Grid). IsDesubstitution s.loop.first g q) same (subst (λ (k : RawLink). IsDesubstitution k p q) (sym (first_link n set c s l e)) is);
  told = said ∙ (ap Answered (made ∙ told)
      ∙ (ap (λ (x : End). Answered (sample_text n x tiles p q)) ends
      ∙ (ap (λ (k : ℕ). Answered (sample_text n c.end k p q)) size
      ∙ ap (λ (g : Grid). Answered (sample_text n c.end (length set.tiles) g q)) same)));
}

pub never_cause : (f : Option RowFault) (e : ExpandFault) → f ≡ None → IsCause f e → e ≡ OutOfMemory
never_cause f e none is = subst (λ (o : Option RowFault). IsCause o e) none is

pub never_fault : (o : Option DesubFault) (f : DesubFault) → o ≡ None → (f ≡ desub.OutOfMemory) ⊎ (o ≡ Some f) → f ≡ desub.OutOfMemory
never_fault o f none (inl e) = e
never_fault o f none (inr e) = absurd (let h : None ≡ Some f = sym none ∙ e in cc)

pub found_told : {E : Type 0} (n : ℕ) (set : TileList) (c : RawChain) (r : Result Reply E) → IsU set → MayAnswerSearch u_question set LEVELS (Ok c) → IfOk r (IsSampled n set c) → IfOk r (IsSampleReply n)
found_told n set c (Ok reply) is may said = (set, is, Ok c, may, said)
found_told n set c (Err e) is may said = tt

pub end_told : {E : Type 0} (n : ℕ) (set : TileList) (e : SearchEnd) (r : Result Reply E) → IsU set → MayAnswerSearch u_question set LEVELS (Err e) → IfOk r (IsEnded e) → IfOk r (IsSampleReply n)
end_told n set e (Ok reply) is may said = (set, is, Err e, may, said)
end_told n set e (Err w) is may said = tt

pub ended_as : (e : SearchEnd) (status : ℕ) (text : List ℕ) (reply : Reply) → IsEndReply e (stops status text) → reply ≡ by_status status text → IsEnded e reply
ended_as e status text reply is said = (status, text, is, said)
