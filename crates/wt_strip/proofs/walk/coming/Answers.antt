use Rattle.std.proofs.Common.{arith, ◌≡◌, ◌-◌, ℕ, suc, true, length, slice_index, refl, ◌∙◌, subst}
use Rattle.wt_grid.specs.declared.axis.Axis.TheVariants.{One}
use Rattle.wt_tile.specs.Matching.{matches}
use Rattle.wt_mask.specs.Masks.{mask_at, may_stand}
use Rattle.wt_mask.specs.declared.sides.Way.TheVariants.{Right}
use Rattle.wt_strip.proofs.Walked.{and_true}
use Rattle.wt_strip.proofs.Bears.{come_of, bar_of}
use Rattle.wt_strip.proofs.walk.coming.Goals as goal

pub returns-then-x-eq0 : goal.returns-then-x-eq0
returns-then-x-eq0 c =
    let n = length c.args.sides.now.tiles.now in
    let none = c.if-x-eq0.true in
    record {
      come = λ t e.
          let h = come_of t n true (mask_at c.args.allowed.now c.args.x) c.all.result c.and_into.new.a (c.all.ensures t ∙ and_true t n) (c.and_into.ensures t) e in
          (h.0, h.1, λ k s. absurd (omega (arith, s, none)));
      barred = λ t e h. bar_of t n true (mask_at c.args.allowed.now c.args.x) c.all.result c.and_into.new.a (c.all.ensures t ∙ and_true t n) (c.and_into.ensures t) e h.0 h.1 refl;
    }

pub returns : goal.returns
returns c =
    let ts = c.args.sides.now.tiles.now in
    let before = slice_index c.args.row.now (c.args.x - 1) in
    record {
      come = λ t e.
          let h = come_of t (length ts) (may_stand ts Right before t) (mask_at c.args.allowed.now c.args.x) c.beside.result c.and_into-2.new.a (c.beside.ensures t) (c.and_into-2.ensures t) e in
          (h.0, h.1, λ k s. let here : c.args.x - 1 ≡ k = omega (arith, s) in subst (λ (j : ℕ). matches ts One (slice_index c.args.row.now j) t ≡ true) here h.2);
      barred = λ t e h. bar_of t (length ts) (may_stand ts Right before t) (mask_at c.args.allowed.now c.args.x) c.beside.result c.and_into-2.new.a (c.beside.ensures t) (c.and_into-2.ensures t) e h.0 h.1
          (h.2 (c.args.x - 1) (behind c.args.x c.if-x-eq0.false));
    }
  where
    behind : (x : ℕ) → (x ≡ 0 → ⊥) → x ≡ suc (x - 1)
    behind x some = omega (arith, some)
