use Rattle.std.proofs.Common.{arith, ℕ, ap, slice_index, List, ◌∙◌}
use Rattle.wt_tile.specs.Matching.{matches}
use Rattle.wt_grid.specs.declared.axis.Axis.TheVariants.{Two}
use Rattle.wt_strip.proofs.Led.{none_led, one_led}
use Rattle.wt_strip.proofs.leads.lead_rows.Goals as goal

pub rows-init : goal.rows-init
rows-init c = record {
  within = c.bearing_from-r.ensures.within;
  led = none_led c.args.sides.now.tiles.now c.args.w c.requires.wide c.args.below.now c.bearing_from-r.result c.new-leads.result.items c.new-leads.ensures.items c.bearing_from-r.ensures.passed;
}

pub rows-preserved : goal.rows-preserved
rows-preserved c =
    let long = c.lead_row-lead.ensures.long in
    let narrow = c.requires.narrow in
    let wide = c.row.ensures.long in
    record {
      within = c.bearing_from-r-in-rows.ensures.within;
      led = one_led c.args.sides.now.tiles.now c.args.w c.requires.wide c.args.below.now c.rows.r c.bearing_from-r-in-rows.result c.rows.leads.items c.lead_row-lead.result c.push_row.new.cells.items
          c.rows.invariant.led c.rows-test.true (omega (arith, long, narrow))
          (λ x t lx. c.lead_row-lead.ensures.same x t (omega (arith, lx, wide)) ∙ ap (λ (p : List ℕ). matches c.args.sides.now.tiles.now Two (slice_index p x) t) c.row.ensures.cells)
          (c.in_ok-push_row.ensures {u = tt}) c.bearing_from-r-in-rows.ensures.passed;
    }

pub returns-clause-upon : goal.returns-clause-upon
returns-clause-upon c = λ q h. (h.0, c.rows.invariant.led.upon h.1.0 h.1.1 q h.1.2)

pub returns-clause-all : goal.returns-clause-all
returns-clause-all c = λ q h.
    let past = c.rows-test.false in
    let lt = h.1.1 in
    (h.0, c.rows.invariant.led.all h.1.0 (omega (arith, past, lt)) q h.0 h.1.2)
