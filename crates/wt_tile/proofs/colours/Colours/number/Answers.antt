use Rattle.std.proofs.Common.{◌≡◌, ◌≤◌, List, length, Contains, sym, true≢false}
use Rattle.wt_tile.specs.declared.fusion.Edge.{Edge}
use Rattle.wt_tile.proofs.Numbering.{once, few_next, added_next}
use Rattle.wt_tile.proofs.colours.Colours.number.Goals as goal
use Rattle.wt_tile.proofs.colours.Colours.number.Goals.{in-Ok, in-Err}

-- no new edge comes to 512 others
room : (c : goal.Joined-insert_full) → (length c.args.self.now ≡ 512) × (Contains c.args.self.now c.args.edge → ⊥) → ⊥
room c q = true≢false (sym ((c.if-is_past.ensures {u = tt}).1 q))

few : (c : goal.Joined-insert_full) → length c.insert_full.new.self.keys ≤ 512
few c =
    let v : c.self.inside.edges.keys ≡ c.args.self.now = c.self.view_is in
    elim c.match-insert_full.branch [
      | in-Ok w ↦ few_next c.self.inside.edges.keys c.args.self.now c.insert_full.new.self.keys c.args.edge v (w.in-Ok.ensures {u = tt}).keys c.self.invariant.few (room c)
      | in-Err w ↦
          let same : c.insert_full.new.self.keys ≡ c.self.inside.edges.keys = rw w.in-Err.is at c.insert_full.ensures.err in
          rw same c.self.invariant.few
    ]

pub invariant_of-self : goal.invariant_of-self
invariant_of-self c = once c.insert_full.new.self.keys c.insert_full.ensures.unique (few c)

pub returns-clause-added : goal.returns-clause-added
returns-clause-added c = λ new.
    let v : c.self.inside.edges.keys ≡ c.args.self.now = c.self.view_is in
    elim c.match-insert_full.branch [
      | in-Ok w ↦ rw w.result-is (added_next c.self.inside.edges.keys c.args.self.now c.insert_full.new.self.keys c.args.edge v (w.in-Ok.ensures {u = tt}).keys new)
      | in-Err w ↦ rw w.result-is tt
    ]

pub returns-clause-numbering : goal.returns-clause-numbering
returns-clause-numbering c = once c.insert_full.new.self.keys c.insert_full.ensures.unique (few c)

pub returns-clause-too_many : goal.returns-clause-too_many
returns-clause-too_many c = elim c.match-insert_full.branch [
  | in-Ok w ↦ rw w.result-is (λ e. absurd (cc), λ e. absurd (room c e))
  | in-Err w ↦ rw w.result-is (λ e. absurd (cc), λ e. absurd (room c e))
]
