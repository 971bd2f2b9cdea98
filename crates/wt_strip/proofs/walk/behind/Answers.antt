use Rattle.std.proofs.Common.{arith, ◌≡◌, ℕ, length, true, inl, inr, sym, ◌∙◌, subst}
use Rattle.std.proofs.lemmas.Bool.{cases_lt}
use Rattle.wt_lane.specs.Masks.{mask_bit}
use Rattle.wt_mask.specs.Masks.{may_stand}
use Rattle.wt_mask.specs.declared.sides.Way.TheVariants.{Right}
use Rattle.wt_mask.proofs.Bits.{in_second, kept_more}
use Rattle.wt_strip.proofs.Bears.{shown, raised, one_of}
use Rattle.wt_strip.proofs.walk.behind.Goals as goal

pub tiles-preserved : goal.tiles-preserved
tiles-preserved c =
    let i = c.tiles.invariant in
    let found = c.in-Some.ensures in
    let n = length c.args.sides.now.tiles.now in
    record {
      low = let lt = found.1 in omega (arith, lt);
      stands = λ u e. elim (one_of (mask_bit c.tiles.mask u) (mask_bit c.beside.result u) (sym_of (c.join_into.ensures u) e)) [
        | inl old ↦ i.stands u old
        | inr new ↦
            let s = shown u n (may_stand c.args.sides.now.tiles.now Right c.in-Some.t u) (sym_of (c.beside.ensures u) new) in
            (c.in-Some.t, found.2, s.0, s.1)
      ];
      all = λ t u lt below e m. elim (cases_lt t c.tiles.from) [
        | inl less ↦ kept_more c.tiles.mask c.join_into.new.a c.beside.result c.join_into.ensures u (i.all t u lt less e m)
        | inr ge ↦ elim (cases_lt t c.in-Some.t) [
          | inl between ↦ absurd (let none = found.3 t ge between in omega (arith, none, e))
          | inr last ↦
              let same : t ≡ c.in-Some.t = omega (arith, below, last) in
              c.join_into.ensures u ∙ in_second c.tiles.mask c.beside.result u (c.beside.ensures u
              ∙ raised u n (may_stand c.args.sides.now.tiles.now Right c.in-Some.t u) lt (subst (λ (k : ℕ). may_stand c.args.sides.now.tiles.now Right k u ≡ true) same m))
        ]
      ];
    }
  where
    sym_of : {x y : ℕ} → x ≡ y → x ≡ 1 → y ≡ 1
    sym_of e f = sym e ∙ f

pub returns-clause-all : goal.returns-clause-all
returns-clause-all c = λ u s. elim (cases_lt s.0 c.tiles.from) [
  | inl less ↦ c.tiles.invariant.all s.0 u s.2 less s.1 s.3
  | inr ge ↦ absurd (let none = c.in_default.ensures s.0 ge in let set = s.1 in omega (arith, none, set))
]
