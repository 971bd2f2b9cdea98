-- What an answer of `markov` promises.
use Rattle.std.proofs.Common.{arith, ◌≡◌, ℕ, List, length, refl, sym, ◌∙◌, ap, subst}
use Rattle.std.specs.Prelude.{Option, None, Some, Result, Ok, Err, IfSome, Bool, true, false, nat_lt, slice_get}
use Rattle.wt_line.specs.declared.faults.What.{What}
use Rattle.wt_text.specs.Words.{value_from}
use Rattle.wt_text.specs.Lines.{lines}
use Rattle.wt_text.specs.Readers.{TextFault, syntax_at, limit_at}
use Rattle.wt_tile.specs.declared.tile.Tile.{Tile}
use Rattle.wt_tile.specs.declared.tile.TileList.{TileList}
use Rattle.wt_tile.specs.Sets.{set_fault}
use Rattle.wt_step.specs.declared.raw.RawStep.{RawStep}
use Rattle.wt_step.specs.declared.raw.RawLink.{RawLink}
use Rattle.wt_step.specs.declared.raw.RawLink.TheVariants.{Marker, Restrict}
use Rattle.wt_step.specs.Links.{link_fault}
use Rattle.wt_step.specs.Faults.{step_fault}
use Rattle.wt_chain.specs.declared.raw.RawChain.{RawChain}
use Rattle.wt_chain.specs.declared.raw.Refusal.{Refusal}
use Rattle.wt_chain.specs.Faults.{chain_fault}
use Rattle.wt_cert.specs.Parts.{cert_part}
use Rattle.wt_torus.specs.declared.partition.Partition.{Partition}
use Rattle.wt_torus.specs.Sound.{IsSound}
use Rattle.wt_markov.specs.declared.fault.MarkovFault.{MarkovFault}
use Rattle.wt_markov.specs.declared.fault.MarkovFault.TheVariants as pairs
use Rattle.wt_markov.specs.declared.fault.WindowFault.{WindowFault}
use Rattle.wt_markov.specs.declared.fault.WindowFault.TheVariants as window
use Rattle.wt_markov.specs.Faults.{markov_fault}
use Rattle.wt_markov.specs.WindowFaults.{window_fault}
use Rattle.wt_markov.proofs.Faultless.{markov_without, window_without}
use Rattle.wt_markov.proofs.Valid.{codes_valid}
use Rattle.wt_markov.proofs.Agreement.{HasBorders}
use Rattle.wt_markov.proofs.Desubstituted.{codes_desubstitute}
use Rattle.wt_script.specs.declared.torus.RawTorus.{RawTorus}
use Rattle.wt_session.specs.declared.partitions.PartitionFault.{PartitionFault}
use Rattle.wt_session.specs.Partitions.{partition_of}
use Rattle.wt_session.proofs.One.{good_link}
use Rattle.wt_program.specs.declared.reply.Reply.{Reply}
use Rattle.wt_program.specs.Commands.{Command, check, run, desub, bound, expand, periodic, strip, strip_check, markov, markov_step, sample, command}
use Rattle.wt_program.specs.Replies.{Answer, said}
use Rattle.wt_program.specs.Checks.{judged_by, reply_or}
use Rattle.wt_program.specs.SetTexts.{set_part, IsListReply}
use Rattle.wt_program.specs.Markovs.{set_and_torus, chain_and_torus, pairs_refusal, window_refusal, pairs_reply, window_reply, marked_reply, link_reply, made_reply, codes_reply, markers_reply, IsReadTorusReply, read_reply}
use Rattle.wt_program.specs.Answers.{IsAnswerBy, IsAnswerTo}
use Rattle.wt_program.specs.Outcomes.{IsAnswered}
use Rattle.wt_program.specs.MarkovPromise.{HasValidCodes, HasCodesApart, IsCoding, IsCodingApart, IsMarkovPromise}
use Rattle.wt_program.proofs.Barred.{SaysYes, yes_of, answered_list}
use Rattle.wt_program.proofs.Tori.{text_upright}
use Rattle.wt_program.proofs.Sound.{sound}

-- ---- what a yes says of the faults

refused_pairs : (fault : MarkovFault) → SaysYes (pairs_refusal fault) → ⊥
refused_pairs (pairs.Tile i) well = cc
refused_pairs pairs.TooLarge well = cc
refused_pairs (pairs.Pair axis i j) well = cc

refused_window : (fault : WindowFault) → SaysYes (window_refusal fault) → ⊥
refused_window window.Side well = cc
refused_window window.Half well = cc
refused_window window.TooLarge well = cc
refused_window (window.Outside i) well = cc
refused_window (window.Inside i) well = cc
refused_window (window.Nowhere a) well = cc

no_pair_fault : (p : Partition) (f : Option MarkovFault) → SaysYes (pairs_reply p f) → f ≡ None
no_pair_fault p None well = refl
no_pair_fault p (Some fault) well = absurd (refused_pairs fault well)

no_window_fault : (p : Partition) (f : Option WindowFault) → SaysYes (window_reply p f) → f ≡ None
no_window_fault p None well = refl
no_window_fault p (Some fault) well = absurd (refused_window fault well)

no_fault : (s : RawStep) (p : Partition) (f : Option MarkovFault) → SaysYes (marked_reply s p f) → (f ≡ None) × (window_fault s p ≡ None)
no_fault s p None well = (refl, no_window_fault p (window_fault s p) well)
no_fault s p (Some fault) well = absurd (refused_pairs fault well)

-- the partition that was made
made : (answer : Partition → Reply) (r : Result Partition PartitionFault) → SaysYes (made_reply answer r) → (p : Partition) × (r ≡ Ok p) × SaysYes (answer p)
made answer (Ok p) well = (p, refl, well)
made answer (Err fault) well = absurd cc

-- the marker step that was asked for
asked : (step : List ℕ) (p : Partition) (o : Option RawLink) → SaysYes (link_reply step p o) → (s : RawStep) × (o ≡ Some (Marker s)) × SaysYes (marked_reply s p (markov_fault s.fine.tiles p))
asked step p None well = absurd cc
asked step p (Some (Restrict s)) well = absurd cc
asked step p (Some (Marker s)) well = (s, refl, well)

-- a chain that was not refused
judged_well : (answer : RawChain → Reply) (c : RawChain) (f : Option Refusal) → SaysYes (reply_or answer (judged_by c f)) → (f ≡ None) × SaysYes (answer c)
judged_well answer c None well = (refl, well)
judged_well answer c (Some refusal) well = absurd cc

-- ---- what the codes are

valid_codes : (ts : List Tile) (p : Partition) → IsSound p → markov_fault ts p ≡ None → HasValidCodes ts p
valid_codes ts p is none z spot g code = codes_valid ts p is (markov_without ts p none) z spot g code

codes_apart : HasBorders → (s : RawStep) (p : Partition) → step_fault s ≡ None → IsSound p → markov_fault s.fine.tiles p ≡ None → window_fault s p ≡ None → HasCodesApart s p
codes_apart borders s p good is none whole z spot g code margin =
    let w = window_without s p whole in
    codes_desubstitute borders s good w.0 p is w.1 (markov_without s.fine.tiles p none) w.2 z spot g code margin

good_step : (c : RawChain) (k : ℕ) (s : RawStep) → chain_fault c ≡ None → slice_get c.steps k ≡ Some (Marker s) → step_fault s ≡ None
unfolding link_fault
good_step c k s good at = good_link c k (Marker s) good at

-- ---- the words

coding : (bytes : List ℕ) (list : TileList) (torus : RawTorus) (reply : Reply) → set_and_torus bytes ≡ Ok (list, torus) → IsListReply (λ ts r. r ≡ codes_reply torus ts) list (set_fault list) reply → SaysYes reply → IsCoding bytes
coding bytes list torus reply e is well =
    let told = answered_list (λ ts r. r ≡ codes_reply torus ts) list (set_fault list) reply is well in
    let m = made (λ p. pairs_reply p (markov_fault list.tiles p)) (partition_of torus.sides torus.regions) (yes_of reply _ told well) in
    let up = text_upright set_part (lines bytes) (list, torus) e in
    let codes = valid_codes list.tiles m.0 (sound torus.sides torus.regions m.0 up m.1) (no_pair_fault m.0 (markov_fault list.tiles m.0) m.2) in
    (list, torus, m.0, e, m.1, codes)

with_set : (bytes : List ℕ) (r : Result (TileList × RawTorus) (TextFault What)) (reply : Reply) → set_and_torus bytes ≡ r → IsReadTorusReply r reply → SaysYes reply → IsCoding bytes
with_set bytes (Ok x) reply e is well = coding bytes x.0 x.1 reply e is well
with_set bytes (Err (syntax_at n)) reply e is well = absurd (let y : 1 ≡ 0 = yes_of reply _ is well in cc)
with_set bytes (Err (limit_at what n)) reply e is well = absurd (let y : 5 ≡ 0 = yes_of reply _ is well in cc)

apart : HasBorders → (step bytes : List ℕ) (c : RawChain) (torus : RawTorus) → chain_and_torus bytes ≡ Ok (c, torus) → SaysYes (reply_or (markers_reply step torus) (judged_by c (chain_fault c))) → IsCodingApart step bytes
apart borders step bytes c torus e well =
    let j = judged_well (markers_reply step torus) c (chain_fault c) well in
    let o = slice_get c.steps (value_from 0 step) in
    let m = made (λ p. link_reply step p o) (partition_of torus.sides torus.regions) j.1 in
    let a = asked step m.0 o m.2 in
    let f = no_fault a.0 m.0 (markov_fault a.0.fine.tiles m.0) a.2 in
    let is = sound torus.sides torus.regions m.0 (text_upright cert_part (lines bytes) (c, torus) e) m.1 in (
      c,
      torus,
      m.0,
      a.0,
      e,
      m.1,
      a.1,
      valid_codes a.0.fine.tiles m.0 is f.0,
      codes_apart borders a.0 m.0 (good_step c (value_from 0 step) a.0 j.0 a.1) is f.0 f.1,
    )

with_chain : HasBorders → (step bytes : List ℕ) (r : Result (RawChain × RawTorus) (TextFault What)) → chain_and_torus bytes ≡ r → SaysYes (read_reply step r) → IsCodingApart step bytes
with_chain borders step bytes (Ok x) e well = apart borders step bytes x.0 x.1 e well
with_chain borders step bytes (Err (syntax_at n)) e well = absurd (let y : 1 ≡ 0 = well in cc)
with_chain borders step bytes (Err (limit_at what n)) e well = absurd (let y : 5 ≡ 0 = well in cc)

by_command : HasBorders → (c : Option Command) (bytes : List ℕ) (answer : Answer) → IsAnswerBy c bytes answer → answer.status ≡ 0 → IsMarkovPromise c bytes
by_command borders None bytes answer is well = tt
by_command borders (Some check) bytes answer is well = tt
by_command borders (Some run) bytes answer is well = tt
by_command borders (Some (desub step)) bytes answer is well = tt
by_command borders (Some (bound x y)) bytes answer is well = tt
by_command borders (Some (expand width height)) bytes answer is well = tt
by_command borders (Some (periodic limit budget)) bytes answer is well = tt
by_command borders (Some (strip w h)) bytes answer is well = tt
by_command borders (Some strip_check) bytes answer is well = tt
by_command borders (Some (sample side)) bytes answer is well = tt
by_command borders (Some markov) bytes answer is well = within (nat_lt 16777216 (length bytes)) is
  where
    within : (b : Bool) → IsAnswerTo b markov bytes answer → IsCoding bytes
    within true is = absurd (let t : 5 ≡ 0 = sym (ap (λ (a : Answer). a.status) is) ∙ well in cc)
    within false is = with_set bytes (set_and_torus bytes) is.0 refl is.1 (sym (ap (λ (a : Answer). a.status) is.2) ∙ well)
by_command borders (Some (markov_step step)) bytes answer is well = within (nat_lt 16777216 (length bytes)) is
  where
    within : (b : Bool) → IsAnswerTo b (markov_step step) bytes answer → IsCodingApart step bytes
    within true is = absurd (let t : 5 ≡ 0 = sym (ap (λ (a : Answer). a.status) is) ∙ well in cc)
    within false is = with_chain borders step bytes (chain_and_torus bytes) refl (yes_of is.0 _ is.1 (sym (ap (λ (a : Answer). a.status) is.2) ∙ well))

pub coded : HasBorders → (words : List (List ℕ)) (left old new : Option (List ℕ)) (status : ℕ) → status ≡ 0
    → IfSome left (λ bytes. IsAnswered words bytes old new status) → IfSome left (λ bytes. IsMarkovPromise (command words) bytes)
coded borders words None old new status z is = tt
coded borders words (Some bytes) old new status z is =
    let a = is (λ h. let k : status ≡ 3 = h in absurd (omega (arith, z, k))) (λ h. let k : status ≡ 4 = h in absurd (omega (arith, z, k))) (λ h. let k : status ≡ 7 = h in absurd (omega (arith, z, k))) in
    by_command borders (command words) bytes a.0 a.1 (sym a.2 ∙ z)
