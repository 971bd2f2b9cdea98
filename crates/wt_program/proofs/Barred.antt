-- What an answer of `strip` promises.
use Rattle.std.proofs.Common.{arith, ◌≡◌, ◌⊎◌, ◌≤◌, ℕ, List, length, refl, sym, ◌∙◌, ap, subst, inl, inr}
use Rattle.std.specs.Prelude.{Option, None, Some, Result, Ok, Err, IfSome, Bool, true, false, nat_lt}
use Rattle.std.specs.Io.KnownBytes.{Appends}
use Rattle.wt_line.specs.declared.faults.What.{What}
use Rattle.wt_text.specs.Words.{value_from}
use Rattle.wt_text.specs.Lines.{lines}
use Rattle.wt_text.specs.Readers.{TextFault, syntax_at, limit_at, whole_text}
use Rattle.wt_tile.specs.declared.tile.Tile.{Tile}
use Rattle.wt_tile.specs.declared.tile.TileList.{TileList}
use Rattle.wt_tile.specs.declared.tile.SetFault.{SetFault}
use Rattle.wt_tile.specs.declared.tile.SetFault.TheVariants.{Empty, TooMany, NoColour, Names, Repeated}
use Rattle.wt_tile.specs.Sets.{set_fault}
use Rattle.wt_strip.specs.declared.layers.Layers.{Layers}
use Rattle.wt_strip.specs.declared.layers.StripFault.{StripFault}
use Rattle.wt_strip.specs.declared.making.Stripped.{Stripped}
use Rattle.wt_strip.specs.declared.making.Stripped.TheVariants as made
use Rattle.wt_strip.specs.declared.making.StripEnd.{StripEnd}
use Rattle.wt_strip.specs.declared.making.StripEnd.TheVariants as end
use Rattle.wt_strip.proofs.Faults.{forbid}
use Rattle.wt_program.specs.declared.reply.Reply.{Reply}
use Rattle.wt_program.specs.declared.reply.Reply.TheVariants.{Refused}
use Rattle.wt_program.specs.Commands.{Command, check, run, desub, bound, expand, periodic, strip, strip_check, markov, markov_step, sample, command}
use Rattle.wt_program.specs.Replies.{Answer, said}
use Rattle.wt_program.specs.SetTexts.{set_part, IsListReply, IsSetReply}
use Rattle.wt_program.specs.Strips.{IsStripAnswer, IsToldStrip, IsLayersReply}
use Rattle.wt_program.specs.StripChecks.{strip_fault_text, set_and_layers, IsLayersVerdict, IsReadLayersReply}
use Rattle.wt_program.specs.Answers.{IsAnswerBy, IsAnswerTo}
use Rattle.wt_program.specs.Outcomes.{IsAnswered}
use Rattle.wt_program.specs.StripPromise.{HasNoPattern, IsBarring, IsFilling, IsEmptying, IsSettled, IsStripPromise}

-- the reply says that the words were answered
abbrev pub SaysYes : Reply → Type 0
SaysYes reply = (said reply).status ≡ 0

pub yes_of : (reply other : Reply) → reply ≡ other → SaysYes reply → SaysYes other
yes_of reply other e well = subst (λ (r : Reply). SaysYes r) e well

module _ (answers : List Tile → Reply → Type 0) where
  -- a list that was answered is a set
  pub answered_list : (list : TileList) (f : Option SetFault) (reply : Reply) → IsListReply answers list f reply → SaysYes reply → answers list.tiles reply
  answered_list list None reply is well = is
  answered_list list (Some Empty) reply is well = absurd (let y : 1 ≡ 0 = yes_of reply _ is well in cc)
  answered_list list (Some (Repeated i j)) reply is well = absurd (let y : 1 ≡ 0 = yes_of reply _ is well in cc)
  answered_list list (Some TooMany) reply is well = absurd is
  answered_list list (Some (NoColour tile)) reply is well = absurd is
  answered_list list (Some (Names axis)) reply is well = absurd is

  -- a text that was answered has a set
  answered_set : (r : Result TileList (TextFault What)) (reply : Reply) → IsSetReply answers r reply → SaysYes reply → (list : TileList) × (r ≡ Ok list) × answers list.tiles reply
  answered_set (Ok list) reply is well = (list, refl, answered_list list (set_fault list) reply is well)
  answered_set (Err (syntax_at n)) reply is well = absurd (let y : 1 ≡ 0 = yes_of reply _ is well in cc)
  answered_set (Err (limit_at what n)) reply is well = absurd (let y : 5 ≡ 0 = yes_of reply _ is well in cc)

refused : (fault : StripFault) → SaysYes (Refused (strip_fault_text fault)) → ⊥
refused fault well = let y : 1 ≡ 0 = well in cc

-- layers that were found exact leave no pattern
barring : (l : Layers) (ts : List Tile) (reply : Reply) → IsLayersVerdict l ts reply → SaysYes reply → HasNoPattern ts l.width (length l.layers)
barring l ts reply (inl exact) well = λ g is wide high. forbid ts l g exact.0 is wide high
barring l ts reply (inr faulty) well = absurd (refused faulty.0 (yes_of reply _ faulty.2 well))

-- what a yes of `strip check` promises
barred : (bytes : List ℕ) (r : Result (TileList × Layers) (TextFault What)) (reply : Reply) → set_and_layers bytes ≡ r → IsReadLayersReply r reply → SaysYes reply → IsBarring bytes
barred bytes (Ok x) reply e is well = (x.0, x.1, e, barring x.1 x.0.tiles reply (answered_list (IsLayersVerdict x.1) x.0 (set_fault x.0) reply is well) well)
barred bytes (Err (syntax_at n)) reply e is well = absurd (let y : 1 ≡ 0 = yes_of reply _ is well in cc)
barred bytes (Err (limit_at what n)) reply e is well = absurd (let y : 5 ≡ 0 = yes_of reply _ is well in cc)

-- what `strip` made or gave
settled : (ts : List Tile) (w h : ℕ) (old new : Option (List ℕ)) (answer : Result Stripped StripEnd) (reply : Reply) → IsStripAnswer ts w h answer → IsToldStrip answer reply → SaysYes reply → Appends old new (said reply).text
    → IsFilling ts w h old new ⊎ IsEmptying ts w h old new
settled ts w h old new (Ok (made.Empty l)) reply is told well done =
    inr (l, is.1, is.2, (λ g valid wide high. forbid ts l g is.0 valid (subst (λ (n : ℕ). n ≤ g.width) (sym is.1) wide) high), subst (λ (r : Reply). Appends old new (said r).text) told done)
settled ts w h old new (Ok (made.Filled g)) reply is told well done =
    inl (g, record { pattern = is.0.valid; wide = is.0.wide; high = is.0.high }, subst (λ (r : Reply). Appends old new (said r).text) told done)
settled ts w h old new (Err (end.TooManyRows layer)) reply is told well done = absurd (let y : 5 ≡ 0 = yes_of reply _ told well in cc)
settled ts w h old new (Err end.OutOfMemory) reply is told well done = absurd told

of_set : (w h : ℕ) (bytes : List ℕ) (old new : Option (List ℕ)) (reply : Reply) → IsSetReply (IsLayersReply w h) (whole_text set_part (lines bytes)) reply → SaysYes reply → Appends old new (said reply).text → IsSettled w h bytes old new
of_set w h bytes old new reply is well done =
    let set = answered_set (IsLayersReply w h) (whole_text set_part (lines bytes)) reply is well in
    (set.0, set.1, settled set.0.tiles w h old new set.2.0 reply set.2.1 set.2.2 well done)

by_command : (c : Option Command) (bytes : List ℕ) (old new : Option (List ℕ)) (answer : Answer) → IsAnswerBy c bytes answer → answer.status ≡ 0 → Appends old new answer.text → IsStripPromise c bytes old new
by_command None bytes old new answer is well done = tt
by_command (Some check) bytes old new answer is well done = tt
by_command (Some run) bytes old new answer is well done = tt
by_command (Some (desub step)) bytes old new answer is well done = tt
by_command (Some (bound x y)) bytes old new answer is well done = tt
by_command (Some (expand width height)) bytes old new answer is well done = tt
by_command (Some (periodic limit budget)) bytes old new answer is well done = tt
by_command (Some markov) bytes old new answer is well done = tt
by_command (Some (markov_step step)) bytes old new answer is well done = tt
by_command (Some (sample side)) bytes old new answer is well done = tt
by_command (Some (strip w h)) bytes old new answer is well done = within (nat_lt 16777216 (length bytes)) is
  where
    within : (b : Bool) → IsAnswerTo b (strip w h) bytes answer → IsSettled (value_from 0 w) (value_from 0 h) bytes old new
    within true is = absurd (let t : 5 ≡ 0 = sym (ap (λ (a : Answer). a.status) is) ∙ well in cc)
    within false is = of_set (value_from 0 w) (value_from 0 h) bytes old new is.0 is.1 (sym (ap (λ (a : Answer). a.status) is.2) ∙ well) (subst (λ (a : Answer). Appends old new a.text) is.2 done)
by_command (Some strip_check) bytes old new answer is well done = within (nat_lt 16777216 (length bytes)) is
  where
    within : (b : Bool) → IsAnswerTo b strip_check bytes answer → IsBarring bytes
    within true is = absurd (let t : 5 ≡ 0 = sym (ap (λ (a : Answer). a.status) is) ∙ well in cc)
    within false is = barred bytes (set_and_layers bytes) is.0 refl is.1 (sym (ap (λ (a : Answer). a.status) is.2) ∙ well)

pub kept : (words : List (List ℕ)) (left old new : Option (List ℕ)) (status : ℕ) → status ≡ 0
    → IfSome left (λ bytes. IsAnswered words bytes old new status) → IfSome left (λ bytes. IsStripPromise (command words) bytes old new)
kept words None old new status z is = tt
kept words (Some bytes) old new status z is =
    let a = is (λ h. let k : status ≡ 3 = h in absurd (omega (arith, z, k))) (λ h. let k : status ≡ 4 = h in absurd (omega (arith, z, k))) (λ h. let k : status ≡ 7 = h in absurd (omega (arith, z, k))) in
    by_command (command words) bytes old new a.0 a.1 (sym a.2 ∙ z) a.3
