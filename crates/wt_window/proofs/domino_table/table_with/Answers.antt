use Rattle.std.proofs.Common.{arith, ◌≡◌, refl, length, subst, ℕ, ◌++◌, ◌∷◌, [], inr}
use Rattle.wt_window.proofs.Tabled.{AreRows, rows_more, table_exact, unmatched_more, spent_pair}
use Rattle.wt_window.proofs.domino_table.table_with.Goals as goal

pub returns-in-Err : goal.returns-in-Err
returns-in-Err c = inr (_, _, refl, spent_pair c.args.tables.now.tiles.now c.args.axis c.loop-a.a c.in-Err.b c.args.radius c.args.budget (omega arith) (c.in-Err.ensures.spent c.in-Err.b refl) c.loop-a.invariant.none)

pub loop-a-preserved : goal.loop-a-preserved
loop-a-preserved c = record {
  long = omega arith;
  rows =
      let e : c.push.new.self.items ≡ c.loop-a.rows.items ++ c.in-Ok-row.mask ∷ [] = c.in-Ok-push.ensures.items in
      rw e (rows_more c.args.tables.now.tiles.now c.args.axis c.args.radius c.loop-a.a c.loop-a.rows.items c.in-Ok-row.mask c.in-Ok-row.ensures.row c.loop-a.invariant.rows);
  none = unmatched_more c.args.tables.now.tiles.now c.args.axis c.loop-a.a c.args.budget c.in-Ok-row.ensures.none c.loop-a.invariant.none;
}

pub returns : goal.returns
returns c =
    let e : c.loop-a.a ≡ length c.args.tables.now.tiles.now = omega arith in (
      table_exact c.args.tables.now.tiles.now c.args.axis c.args.radius c.loop-a.rows.items (subst (λ (n : ℕ). AreRows c.args.tables.now.tiles.now c.args.axis c.args.radius n c.loop-a.rows.items) e c.loop-a.invariant.rows),
      λ z a b la lb m. c.loop-a.invariant.none a (omega arith) z b lb m,
    )
