-- What the sides of a window's edge say of regions and markers.
use Rattle.std.proofs.Common.{arith, ◌≡◌, ℕ, zero, suc, ◌≤◌, List, [], ◌∷◌, ◌++◌, length, nat_eq, Bool, true, false, ◌&&◌, not, cond, Option, None, Some, refl, ap, ◌∙◌}
use Rattle.std.specs.List.{list_any}
use Rattle.wt_grid.specs.First.{or_else, first_from}
use Rattle.wt_grid.specs.Order.{first_in}
use Rattle.wt_grid.specs.declared.axis.Axis.{Axis}
use Rattle.wt_torus.specs.declared.partition.Labelled.{Labelled}
use Rattle.wt_torus.specs.declared.partition.Partition.{Partition}
use Rattle.wt_torus.specs.Boxes.{Rotation}
use Rattle.wt_step.specs.declared.raw.RawStep.{RawStep}
use Rattle.wt_step.specs.Words.{is_marker}
use Rattle.wt_markov.specs.declared.fault.WindowFault.{WindowFault}
use Rattle.wt_markov.specs.declared.fault.WindowFault.TheVariants as fault
use Rattle.wt_markov.specs.declared.edges.Edges.{Edges}
use Rattle.wt_markov.specs.Follow.{meets}
use Rattle.wt_markov.specs.Window.{is_beyond, is_inside}
use Rattle.wt_markov.specs.Faults.{region_at}
use Rattle.wt_markov.specs.Turns.{IsEdges}
use Rattle.wt_markov.specs.WindowFaults.{edges_fit, label_fault_at, window_fault_at, regions_fault, stands_beyond, nowhere_at}

beyond_is : (axis : Axis) (r : Rotation) (e : Edges) → IsEdges axis r e → (q : Labelled) → meets (q.region.planes ++ e.beyond) ≡ is_beyond axis r q
unfolding is_beyond
beyond_is axis r e i q = rw i.beyond refl

inside_is : (axis : Axis) (r : Rotation) (e : Edges) → IsEdges axis r e → (q : Labelled) → meets (q.region.planes ++ e.inside) ≡ is_inside axis r q
unfolding is_inside
inside_is axis r e i q = rw i.inside refl

-- what the code finds of a region
abbrev found : ℕ → Bool → Bool → Bool → Option WindowFault
found i beyond inside marked = cond (beyond && not marked) (Some (fault.Outside i)) (cond (inside && marked) (Some (fault.Inside i)) None)

fitting : (b : Bool) (x y : Option WindowFault) → b ≡ true → x ≡ cond b x y
fitting b x y e = rw e refl

-- the fault of a region, by what the code has found
pub window_is : (s : RawStep) (p : Partition) (i : ℕ) (e : Edges) → IsEdges s.axis p.torus e → edges_fit s.axis p.torus ≡ true → (q : Labelled) → q ≡ region_at p i
    → (b c m : Bool) → b ≡ meets (q.region.planes ++ e.beyond) → c ≡ meets (q.region.planes ++ e.inside) → m ≡ is_marker s q.label
    → cond (b && not m) (Some (fault.Outside i)) (cond (c && m) (Some (fault.Inside i)) None) ≡ window_fault_at s p i
window_is s p i e ie fit q eq b c m eb ec em =
    let r = region_at p i in
    let fb : b ≡ is_beyond s.axis p.torus r = eb ∙ (beyond_is s.axis p.torus e ie q ∙ ap (is_beyond s.axis p.torus) eq) in
    let fc : c ≡ is_inside s.axis p.torus r = ec ∙ (inside_is s.axis p.torus e ie q ∙ ap (is_inside s.axis p.torus) eq) in
    let fm : m ≡ is_marker s r.label = em ∙ ap (λ (x : Labelled). is_marker s x.label) eq in
    ap (λ (x : Bool). found i x c m) fb
    ∙ (ap (λ (x : Bool). found i (is_beyond s.axis p.torus r) x m) fc
    ∙ (ap (found i (is_beyond s.axis p.torus r) (is_inside s.axis p.torus r)) fm
    ∙ fitting (edges_fit s.axis p.torus) (label_fault_at s p i) (Some fault.TooLarge) fit))

somewhere_is : (s : RawStep) (p : Partition) (e : Edges) → IsEdges s.axis p.torus e → (a : ℕ)
    → list_any (λ q. nat_eq q.label a && meets (q.region.planes ++ e.beyond)) p.regions ≡ list_any (stands_beyond s p.torus a) p.regions
unfolding is_beyond
somewhere_is s p e i a = rw i.beyond refl

pub nowhere_is : (s : RawStep) (p : Partition) (e : Edges) → IsEdges s.axis p.torus e → (a : ℕ) (rs : List Labelled) → rs ≡ p.regions
    → (b : Bool) → b ≡ list_any (λ q. nat_eq q.label a && meets (q.region.planes ++ e.beyond)) rs → cond b None (Some (fault.Nowhere a)) ≡ nowhere_at s p a
nowhere_is s p e ie a rs er b eb =
    ap (λ (x : Bool). cond x None (Some (fault.Nowhere a))) (eb ∙ (ap (list_any (λ (q : Labelled). nat_eq q.label a && meets (q.region.planes ++ e.beyond))) er ∙ somewhere_is s p e ie a))

-- where a number of the edge is out of limit, that is the fault of the first region
unfit_in : (f : ℕ → Option WindowFault) (n : ℕ) (later : Option WindowFault) → 1 ≤ n → f 0 ≡ Some fault.TooLarge → or_else (first_from f 0 n) later ≡ Some fault.TooLarge
unfit_in f zero later le h = absurd (omega arith)
unfit_in f (suc n) later le h = rw h refl

unfit_at : (b : Bool) (x y : Option WindowFault) → b ≡ false → cond b x y ≡ y
unfit_at b x y e = rw e refl

pub unfit : (s : RawStep) (p : Partition) (later : Option WindowFault) → edges_fit s.axis p.torus ≡ false → 1 ≤ length p.regions → or_else (regions_fault s p) later ≡ Some fault.TooLarge
unfit s p later e le =
    unfit_in (window_fault_at s p) (length p.regions) later le (unfit_at (edges_fit s.axis p.torus) (label_fault_at s p 0) (Some fault.TooLarge) e)

-- without a region the first marker stands nowhere
first_is : (f g : ℕ → Option WindowFault) → ((a : ℕ) → f a ≡ g a) → (ms : List ℕ) → first_in f ms ≡ first_in g ms
first_is f g e [] = refl
first_is f g e (a ∷ ms) = rw (e a, first_is f g e ms) refl

none_there : (f : Labelled → Bool) (rs : List Labelled) (x : WindowFault) → length rs ≡ 0 → cond (list_any f rs) None (Some x) ≡ Some x
none_there f [] x e = refl
none_there f (r ∷ rs) x e = absurd (omega arith)

none_faulty : (f : ℕ → Option WindowFault) (n : ℕ) (later : Option WindowFault) → n ≡ 0 → or_else (first_from f 0 n) later ≡ later
none_faulty f n later e = rw e refl

pub no_regions : (s : RawStep) (p : Partition) → length p.regions ≡ 0
    → or_else (regions_fault s p) (first_in (nowhere_at s p) s.markers) ≡ first_in (λ a. Some (fault.Nowhere a)) s.markers
no_regions s p e =
    none_faulty (window_fault_at s p) (length p.regions) (first_in (nowhere_at s p) s.markers) e
    ∙ first_is (nowhere_at s p) (λ a. Some (fault.Nowhere a)) (λ a. none_there (stands_beyond s p.torus a) p.regions (fault.Nowhere a) e) s.markers
