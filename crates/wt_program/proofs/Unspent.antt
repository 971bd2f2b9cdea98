-- No reply of a command without a budget tells that a budget was spent.
use Rattle.std.proofs.Common.{◌≡◌, ◌≢◌, ◌^◌, ℕ, List, length, slice_get, sym, subst, inl, inr}
use Rattle.std.specs.Prelude.{ℤ, Option, None, Some, Result, Ok, Err, codes, nat_lt, Bool, true, false, if◌then◌else◌}
use Rattle.wt_line.specs.declared.faults.What.{What}
use Rattle.wt_text.specs.Words.{value_from}
use Rattle.wt_text.specs.Lines.{lines, bytes_of}
use Rattle.wt_text.specs.Readers.{TextFault, syntax_at, limit_at, whole_text}
use Rattle.wt_grid.specs.Grid.{Grid}
use Rattle.wt_pattern.specs.PatternRows.{pattern_lines}
use Rattle.wt_pattern.specs.Validity.{first_stranger}
use Rattle.wt_step.specs.declared.raw.RawStep.{RawStep}
use Rattle.wt_step.specs.declared.raw.RawLink.{RawLink}
use Rattle.wt_step.specs.declared.raw.RawLink.TheVariants.{Marker, Restrict}
use Rattle.wt_step.specs.declared.coarse.DesubFault.{DesubFault}
use Rattle.wt_step.specs.declared.coarse.DesubFault.TheVariants.{NotValid, TooSmall, OutOfMemory}
use Rattle.wt_step.specs.Links.{fine_of}
use Rattle.wt_step.specs.Coarse.{desub_fault}
use Rattle.wt_chain.specs.declared.raw.RawChain.{RawChain}
use Rattle.wt_chain.specs.declared.raw.End.{End}
use Rattle.wt_chain.specs.declared.raw.End.TheVariants.{Open, Loop}
use Rattle.wt_chain.specs.declared.raw.Refusal.{Refusal}
use Rattle.wt_chain.specs.Faults.{chain_fault}
use Rattle.wt_scale.specs.Pick.{pick}
use Rattle.wt_scale.specs.Vectors.{reach, size_result}
use Rattle.wt_scale.specs.declared.size.SizeFault.{SizeFault}
use Rattle.wt_scale.specs.declared.size.SizeFault.TheVariants as why
use Rattle.wt_program.specs.declared.reply.Reply.{Reply}
use Rattle.wt_program.specs.declared.reply.Reply.TheVariants.{Answered, Limit}
use Rattle.wt_line.specs.Signed.{signed_value}
use Rattle.wt_program.specs.Commands.{Command, check, run, desub, bound, expand, periodic, strip, strip_check, markov, markov_step, sample, has_budget}
use Rattle.wt_program.specs.Replies.{said}
use Rattle.wt_program.specs.Faults.{fault_reply}
use Rattle.wt_program.specs.Checks.{chain_of, judged_by, accepted_read, reply_or, report_reply}
use Rattle.wt_program.specs.Bounds.{size_reply, vector_reply, bounded}
use Rattle.wt_program.specs.Expands.{pick_reply, expanded}
use Rattle.wt_program.specs.Desubs.{chain_and_pattern, IsTakenReply, IsTilesReply, IsStepReply, IsChainReply, IsReadReply}
use Rattle.wt_tile.specs.declared.tile.Tile.{Tile}
use Rattle.wt_tile.specs.declared.tile.TileList.{TileList}
use Rattle.wt_tile.specs.declared.tile.SetFault.{SetFault}
use Rattle.wt_tile.specs.declared.tile.SetFault.TheVariants.{Empty, TooMany, NoColour, Names, Repeated}
use Rattle.wt_tile.specs.Sets.{set_fault}
use Rattle.wt_strip.specs.declared.layers.Layers.{Layers}
use Rattle.wt_strip.specs.declared.making.Stripped.{Stripped}
use Rattle.wt_strip.specs.declared.making.Stripped.TheVariants as made
use Rattle.wt_strip.specs.declared.making.StripEnd.{StripEnd}
use Rattle.wt_strip.specs.declared.making.StripEnd.TheVariants as end
use Rattle.wt_torus.specs.declared.partition.Partition.{Partition}
use Rattle.wt_script.specs.declared.torus.RawTorus.{RawTorus}
use Rattle.wt_session.specs.declared.partitions.PartitionFault.{PartitionFault}
use Rattle.wt_session.specs.Partitions.{partition_of}
use Rattle.wt_markov.specs.declared.fault.MarkovFault.{MarkovFault}
use Rattle.wt_markov.specs.declared.fault.MarkovFault.TheVariants as pairs
use Rattle.wt_markov.specs.declared.fault.WindowFault.{WindowFault}
use Rattle.wt_markov.specs.declared.fault.WindowFault.TheVariants as window
use Rattle.wt_markov.specs.Faults.{markov_fault}
use Rattle.wt_markov.specs.WindowFaults.{window_fault}
use Rattle.wt_program.specs.SetTexts.{set_part, IsListReply, IsSetReply}
use Rattle.wt_program.specs.Strips.{IsToldStrip, IsLayersReply}
use Rattle.wt_program.specs.StripChecks.{set_and_layers, IsLayersVerdict, IsReadLayersReply}
use Rattle.wt_program.specs.Markovs.{set_and_torus, chain_and_torus, pairs_refusal, window_refusal, pairs_reply, window_reply, marked_reply, link_reply, made_reply, codes_reply, IsReadTorusReply, markers_reply, read_reply}
use Rattle.wt_program.specs.Answers.{IsReply}

unspent_fault : (fault : TextFault What) → (said (fault_reply fault)).status ≢ 6
unspent_fault (syntax_at n) e = cc
unspent_fault (limit_at what n) e = cc

unspent_judged : (answer : RawChain → Reply) → ((c : RawChain) → (said (answer c)).status ≢ 6) → (c : RawChain) (f : Option Refusal) → (said (reply_or answer (judged_by c f))).status ≢ 6
unspent_judged answer never c None = never c
unspent_judged answer never c (Some refusal) = λ e. cc

unspent_read : (answer : RawChain → Reply) → ((c : RawChain) → (said (answer c)).status ≢ 6) → (r : Result RawChain (TextFault What)) → (said (reply_or answer (accepted_read r))).status ≢ 6
unspent_read answer never (Ok c) = unspent_judged answer never c (chain_fault c)
unspent_read answer never (Err fault) = unspent_fault fault

unspent_size : (size : Result ℕ SizeFault) → (said (size_reply size)).status ≢ 6
unspent_size (Ok n) e = cc
unspent_size (Err why.OpenChain) e = cc
unspent_size (Err why.ZeroVector) e = cc
unspent_size (Err why.TooLarge) e = cc

unspent_bound : (x y : ℤ) (c : RawChain) (end : End) → (said (vector_reply c end x y)).status ≢ 6
unspent_bound x y c Open = λ e. cc
unspent_bound x y c (Loop start renaming k) = by (nat_lt (reach x y) (2 ^ 63))
  where
    by : (b : Bool) → (said (if b then size_reply (size_result c x y) else Limit (codes "limit number\n"))).status ≢ 6
    by true = unspent_size (size_result c x y)
    by false = λ e. cc

unspent_pick : (w h : ℕ) (c : RawChain) (end : End) → (said (pick_reply c end w h)).status ≢ 6
unspent_pick w h c Open = λ e. cc
unspent_pick w h c (Loop start renaming k) = by (nat_lt 4096 w) (nat_lt 4096 h)
  where
    made : Reply
    made = Answered (bytes_of (pattern_lines (pick c.steps start renaming k w h)))

    by : (a b : Bool) → (said (if a then Limit (codes "limit width\n") else if b then Limit (codes "limit height\n") else made)).status ≢ 6
    by true b = λ e. cc
    by false true = λ e. cc
    by false false = λ e. cc

said_as : (reply other : Reply) → reply ≡ other → (said other).status ≢ 6 → (said reply).status ≢ 6
said_as reply other same never = subst (λ (r : Reply). (said r).status ≢ 6) (sym same) never

unspent_taken : (link : RawLink) (p : Grid) (f : Option DesubFault) (reply : Reply) → IsTakenReply link p f reply → (said reply).status ≢ 6
unspent_taken link p (Some (NotValid fault)) reply is = said_as reply _ is (λ e. cc)
unspent_taken link p (Some TooSmall) reply is = said_as reply _ is (λ e. cc)
unspent_taken link p (Some OutOfMemory) reply is = absurd is
unspent_taken link p None reply is = said_as reply _ is.3 (λ e. cc)

unspent_tiles : (link : RawLink) (p : Grid) (f : Option (ℕ × ℕ)) (reply : Reply) → IsTilesReply link p f reply → (said reply).status ≢ 6
unspent_tiles link p (Some place) reply is = said_as reply _ is (λ e. cc)
unspent_tiles link p None reply is = unspent_taken link p (desub_fault link p) reply is

unspent_step : (step : List ℕ) (p : Grid) (o : Option RawLink) (reply : Reply) → IsStepReply step p o reply → (said reply).status ≢ 6
unspent_step step p None reply is = said_as reply _ is (λ e. cc)
unspent_step step p (Some link) reply is = unspent_tiles link p (first_stranger (length (fine_of link).tiles) p) reply is

unspent_chain : (step : List ℕ) (p : Grid) (c : RawChain) (f : Option Refusal) (reply : Reply) → IsChainReply step p (judged_by c f) reply → (said reply).status ≢ 6
unspent_chain step p c None reply is = unspent_step step p (slice_get c.steps (value_from 0 step)) reply is
unspent_chain step p c (Some refusal) reply is = said_as reply _ is (λ e. cc)

unspent_both : (step : List ℕ) (r : Result (RawChain × Grid) (TextFault What)) (reply : Reply) → IsReadReply step r reply → (said reply).status ≢ 6
unspent_both step (Ok x) reply is = unspent_chain step x.1 x.0 (chain_fault x.0) reply is
unspent_both step (Err fault) reply is = said_as reply _ is (unspent_fault fault)

unspent_list : (answers : List Tile → Reply → Type 0) → ((ts : List Tile) (reply : Reply) → answers ts reply → (said reply).status ≢ 6) → (list : TileList) (f : Option SetFault) (reply : Reply) → IsListReply answers list f reply → (said reply).status ≢ 6
unspent_list answers never list None reply is = never list.tiles reply is
unspent_list answers never list (Some Empty) reply is = said_as reply _ is (λ e. cc)
unspent_list answers never list (Some (Repeated i j)) reply is = said_as reply _ is (λ e. cc)
unspent_list answers never list (Some TooMany) reply is = absurd is
unspent_list answers never list (Some (NoColour tile)) reply is = absurd is
unspent_list answers never list (Some (Names axis)) reply is = absurd is

unspent_set : (answers : List Tile → Reply → Type 0) → ((ts : List Tile) (reply : Reply) → answers ts reply → (said reply).status ≢ 6) → (r : Result TileList (TextFault What)) (reply : Reply) → IsSetReply answers r reply → (said reply).status ≢ 6
unspent_set answers never (Ok list) reply is = unspent_list answers never list (set_fault list) reply is
unspent_set answers never (Err fault) reply is = said_as reply _ is (unspent_fault fault)

unspent_told : (answer : Result Stripped StripEnd) (reply : Reply) → IsToldStrip answer reply → (said reply).status ≢ 6
unspent_told (Ok (made.Empty l)) reply is = said_as reply _ is (λ e. cc)
unspent_told (Ok (made.Filled g)) reply is = said_as reply _ is (λ e. cc)
unspent_told (Err (end.TooManyRows layer)) reply is = said_as reply _ is (λ e. cc)
unspent_told (Err end.OutOfMemory) reply is = absurd is

unspent_layers : (w h : ℕ) (ts : List Tile) (reply : Reply) → IsLayersReply w h ts reply → (said reply).status ≢ 6
unspent_layers w h ts reply is = unspent_told is.0 reply is.2

unspent_verdict : (l : Layers) (ts : List Tile) (reply : Reply) → IsLayersVerdict l ts reply → (said reply).status ≢ 6
unspent_verdict l ts reply (inl exact) = said_as reply _ exact.1 (λ e. cc)
unspent_verdict l ts reply (inr faulty) = said_as reply _ faulty.2 (λ e. cc)

unspent_read_layers : (r : Result (TileList × Layers) (TextFault What)) (reply : Reply) → IsReadLayersReply r reply → (said reply).status ≢ 6
unspent_read_layers (Ok x) reply is = unspent_list (IsLayersVerdict x.1) (unspent_verdict x.1) x.0 (set_fault x.0) reply is
unspent_read_layers (Err fault) reply is = said_as reply _ is (unspent_fault fault)

unspent_pairs_fault : (fault : MarkovFault) → (said (pairs_refusal fault)).status ≢ 6
unspent_pairs_fault (pairs.Tile i) e = cc
unspent_pairs_fault pairs.TooLarge e = cc
unspent_pairs_fault (pairs.Pair axis i j) e = cc

unspent_window_fault : (fault : WindowFault) → (said (window_refusal fault)).status ≢ 6
unspent_window_fault window.Side e = cc
unspent_window_fault window.Half e = cc
unspent_window_fault window.TooLarge e = cc
unspent_window_fault (window.Outside i) e = cc
unspent_window_fault (window.Inside i) e = cc
unspent_window_fault (window.Nowhere a) e = cc

unspent_pairs : (p : Partition) (f : Option MarkovFault) → (said (pairs_reply p f)).status ≢ 6
unspent_pairs p None = λ e. cc
unspent_pairs p (Some fault) = unspent_pairs_fault fault

unspent_window : (p : Partition) (f : Option WindowFault) → (said (window_reply p f)).status ≢ 6
unspent_window p None = λ e. cc
unspent_window p (Some fault) = unspent_window_fault fault

unspent_marked : (s : RawStep) (p : Partition) (f : Option MarkovFault) → (said (marked_reply s p f)).status ≢ 6
unspent_marked s p None = unspent_window p (window_fault s p)
unspent_marked s p (Some fault) = unspent_pairs_fault fault

unspent_link : (step : List ℕ) (p : Partition) (o : Option RawLink) → (said (link_reply step p o)).status ≢ 6
unspent_link step p None = λ e. cc
unspent_link step p (Some (Restrict s)) = λ e. cc
unspent_link step p (Some (Marker s)) = unspent_marked s p (markov_fault s.fine.tiles p)

unspent_made : (answer : Partition → Reply) → ((p : Partition) → (said (answer p)).status ≢ 6) → (r : Result Partition PartitionFault) → (said (made_reply answer r)).status ≢ 6
unspent_made answer never (Ok p) = never p
unspent_made answer never (Err fault) = λ e. cc

unspent_codes : (torus : RawTorus) (ts : List Tile) (reply : Reply) → reply ≡ codes_reply torus ts → (said reply).status ≢ 6
unspent_codes torus ts reply is = said_as reply _ is (unspent_made (λ p. pairs_reply p (markov_fault ts p)) (λ p. unspent_pairs p (markov_fault ts p)) (partition_of torus.sides torus.regions))

unspent_with_set : (r : Result (TileList × RawTorus) (TextFault What)) (reply : Reply) → IsReadTorusReply r reply → (said reply).status ≢ 6
unspent_with_set (Ok x) reply is = unspent_list (λ ts r. r ≡ codes_reply x.1 ts) (unspent_codes x.1) x.0 (set_fault x.0) reply is
unspent_with_set (Err fault) reply is = said_as reply _ is (unspent_fault fault)

unspent_markers : (step : List ℕ) (torus : RawTorus) (c : RawChain) → (said (markers_reply step torus c)).status ≢ 6
unspent_markers step torus c =
    let o = slice_get c.steps (value_from 0 step) in
    unspent_made (λ p. link_reply step p o) (λ p. unspent_link step p o) (partition_of torus.sides torus.regions)

unspent_with_chain : (step : List ℕ) (r : Result (RawChain × RawTorus) (TextFault What)) → (said (read_reply step r)).status ≢ 6
unspent_with_chain step (Ok x) = unspent_judged (markers_reply step x.1) (unspent_markers step x.1) x.0 (chain_fault x.0)
unspent_with_chain step (Err fault) = unspent_fault fault

pub unspent : (c : Command) (bytes : List ℕ) (reply : Reply) → has_budget c ≡ false → IsReply c bytes reply → (said reply).status ≢ 6
unspent check bytes reply none is = said_as reply _ is (unspent_read report_reply (λ c e. cc) (chain_of bytes))
unspent run bytes reply none is = absurd cc
unspent (desub step) bytes reply none is = unspent_both step (chain_and_pattern bytes) reply is
unspent (bound x y) bytes reply none is = said_as reply _ is (unspent_read (bounded (signed_value x) (signed_value y)) (λ c. unspent_bound (signed_value x) (signed_value y) c c.end) (chain_of bytes))
unspent (expand w h) bytes reply none is = said_as reply _ is (unspent_read (expanded (value_from 0 w) (value_from 0 h)) (λ c. unspent_pick (value_from 0 w) (value_from 0 h) c c.end) (chain_of bytes))
unspent (periodic n b) bytes reply none is = absurd cc
unspent (strip w h) bytes reply none is = unspent_set (IsLayersReply (value_from 0 w) (value_from 0 h)) (unspent_layers (value_from 0 w) (value_from 0 h)) (whole_text set_part (lines bytes)) reply is
unspent strip_check bytes reply none is = unspent_read_layers (set_and_layers bytes) reply is
unspent markov bytes reply none is = unspent_with_set (set_and_torus bytes) reply is
unspent (markov_step step) bytes reply none is = said_as reply _ is (unspent_with_chain step (chain_and_torus bytes))
unspent (sample n) bytes reply none is = absurd cc
