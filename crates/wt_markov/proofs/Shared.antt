-- One denominator for a torus and a point: the points that turns reach, over it.
use Rattle.std.proofs.Common.{ℕ}
use Rattle.std.specs.Prelude.{ℤ, pos, ◌*ℤ◌, ◌<ℤ◌}
use Rattle.wt_golden.specs.Whole.{Whole, whole, times}
use Rattle.wt_golden.specs.Fractions.{Fraction, top, over}
use Rattle.wt_golden.proofs.Products.{mul_above}
use Rattle.wt_plane.specs.HalfPlanes.{Spot, x_of, y_of}
use Rattle.wt_grid.specs.declared.axis.Axis.{Axis}
use Rattle.wt_grid.specs.declared.axis.Axis.TheVariants.{One, Two}
use Rattle.wt_grid.specs.Axes.{other}
use Rattle.wt_torus.specs.declared.partition.Partition.{Partition}
use Rattle.wt_torus.specs.Boxes.{Rotation, length_of, move_of}
use Rattle.wt_torus.specs.Rotation.{orbit}
use Rattle.wt_torus.specs.Codes.{coordinate}
use Rattle.wt_torus.proofs.Scale.{IsOver, IsSame, coordinate_is, spot_is, own_over, more_over, more_behind, three_above}
use Rattle.wt_torus.proofs.Lowered.{lowest_is}
use Rattle.wt_torus.specs.Sound.{IsSound}
use Rattle.wt_induce.specs.Law.{along_of, coordinate_of, reached_along}
use Rattle.wt_induce.proofs.Coded.{length_over, move_over, coordinate_low}
use Rattle.wt_induce.proofs.Planes.{point_at}

-- all numbers are whole over d
pub record Shared (axis : Axis) (r : Rotation) (z : Spot) : Type 0 where
  pub d : ℤ
  pub above : pos 0 <ℤ d
  pub L : Whole
  pub M : Whole
  pub T : Whole
  pub O : Whole
  pub N : Whole
  pub S : Whole
  pub length_over : pos 0 <ℤ (length_of axis r).d
  pub move_over : pos 0 <ℤ (move_of axis r).d
  pub start_over : pos 0 <ℤ (coordinate_of axis z).d
  pub other_over : pos 0 <ℤ (length_of (other axis) r).d
  pub across_over : pos 0 <ℤ (move_of (other axis) r).d
  pub row_over : pos 0 <ℤ (coordinate_of (other axis) z).d
  pub length_is : IsOver d (length_of axis r) L
  pub move_is : IsOver d (move_of axis r) M
  pub start_is : IsOver d (coordinate_of axis z) T
  pub other_is : IsOver d (length_of (other axis) r) O
  pub across_is : IsOver d (move_of (other axis) r) N
  pub row_is : IsOver d (coordinate_of (other axis) z) S

start_above : (axis : Axis) (z : Spot) → pos 0 <ℤ z.d → pos 0 <ℤ (coordinate_of axis z).d
start_above axis z h = rw (coordinate_low axis z) ((lowest_is (over (along_of axis z) z.d) h).1.over)

first_over : (f g : Fraction) → IsOver (f.d *ℤ g.d) f (times (top f) (whole g.d))
first_over f g = more_over f.d g.d f (top f) (own_over f)

second_over : (f g : Fraction) → IsOver (f.d *ℤ g.d) g (times (top g) (whole f.d))
second_over f g = more_behind g.d f.d g (top g) (own_over g)

in_first : (a b c : ℤ) (f : Fraction) (X : Whole) → IsOver a f X → IsOver (a *ℤ (b *ℤ c)) f (times X (whole (b *ℤ c)))
in_first a b c f X o = more_over a (b *ℤ c) f X o

in_second : (a b c : ℤ) (f : Fraction) (X : Whole) → IsOver b f X → IsOver (a *ℤ (b *ℤ c)) f (times (times X (whole c)) (whole a))
in_second a b c f X o = more_behind (b *ℤ c) a f (times X (whole c)) (more_over b c f X o)

in_third : (a b c : ℤ) (f : Fraction) (X : Whole) → IsOver c f X → IsOver (a *ℤ (b *ℤ c)) f (times (times X (whole b)) (whole a))
in_third a b c f X o = more_behind (b *ℤ c) a f (times X (whole b)) (more_behind c b f X o)

module _ (l m o n t s : Fraction) (hl : pos 0 <ℤ l.d) (hm : pos 0 <ℤ m.d) (ho : pos 0 <ℤ o.d) (hn : pos 0 <ℤ n.d) (ht : pos 0 <ℤ t.d) (hs : pos 0 <ℤ s.d) where
  product_above : pos 0 <ℤ ((l.d *ℤ m.d) *ℤ ((o.d *ℤ n.d) *ℤ (t.d *ℤ s.d)))
  product_above = three_above lowest_is (l.d *ℤ m.d) (o.d *ℤ n.d) (t.d *ℤ s.d) (mul_above l.d m.d hl hm) (mul_above o.d n.d ho hn) (mul_above t.d s.d ht hs)

pub shared : (axis : Axis) (p : Partition) → IsSound p → (z : Spot) → pos 0 <ℤ z.d → Shared axis p.torus z
shared axis p sound z h =
    let l = length_of axis p.torus in
    let m = move_of axis p.torus in
    let o = length_of (other axis) p.torus in
    let n = move_of (other axis) p.torus in
    let t = coordinate_of axis z in
    let s = coordinate_of (other axis) z in
    let hl = length_over axis p sound in
    let hm = move_over axis p sound in
    let ho = length_over (other axis) p sound in
    let hn = move_over (other axis) p sound in
    let ht = start_above axis z h in
    let hs = start_above (other axis) z h in
    let a = l.d *ℤ m.d in
    let b = o.d *ℤ n.d in
    let c = t.d *ℤ s.d in
    record {
      d = a *ℤ (b *ℤ c);
      above = product_above l m o n t s hl hm ho hn ht hs;
      L = times (times (top l) (whole m.d)) (whole (b *ℤ c));
      M = times (times (top m) (whole l.d)) (whole (b *ℤ c));
      T = times (times (times (top t) (whole s.d)) (whole b)) (whole a);
      O = times (times (times (top o) (whole n.d)) (whole c)) (whole a);
      N = times (times (times (top n) (whole o.d)) (whole c)) (whole a);
      S = times (times (times (top s) (whole t.d)) (whole b)) (whole a);
      length_over = hl;
      move_over = hm;
      start_over = ht;
      other_over = ho;
      across_over = hn;
      row_over = hs;
      length_is = in_first a b c l (times (top l) (whole m.d)) (first_over l m);
      move_is = in_first a b c m (times (top m) (whole l.d)) (second_over l m);
      start_is = in_third a b c t (times (top t) (whole s.d)) (first_over t s);
      other_is = in_second a b c o (times (top o) (whole n.d)) (first_over o n);
      across_is = in_second a b c n (times (top n) (whole o.d)) (second_over o n);
      row_is = in_third a b c s (times (top s) (whole t.d)) (second_over t s);
    }

-- the point that is reached, over the denominator
pub reached_same : (axis : Axis) (r : Rotation) (z : Spot) (h : Shared axis r z) (i j : ℕ)
    → IsSame (reached_along axis r z i j) (point_at axis (orbit h.L h.M h.T i) (orbit h.O h.N h.S j) h.d)
reached_same One r z h i j =
    let a = coordinate_is lowest_is h.d h.above r.width r.move1 (x_of z) h.L h.M h.T h.length_over h.move_over h.start_over h.length_is h.move_is h.start_is i in
    let b = coordinate_is lowest_is h.d h.above r.height r.move2 (y_of z) h.O h.N h.S h.other_over h.across_over h.row_over h.other_is h.across_is h.row_is j in
    spot_is h.d (coordinate r.width r.move1 (x_of z) i) (coordinate r.height r.move2 (y_of z) j) (orbit h.L h.M h.T i) (orbit h.O h.N h.S j) h.above a.1 b.1 a.0 b.0
reached_same Two r z h i j =
    let a = coordinate_is lowest_is h.d h.above r.width r.move1 (x_of z) h.O h.N h.S h.other_over h.across_over h.row_over h.other_is h.across_is h.row_is j in
    let b = coordinate_is lowest_is h.d h.above r.height r.move2 (y_of z) h.L h.M h.T h.length_over h.move_over h.start_over h.length_is h.move_is h.start_is i in
    spot_is h.d (coordinate r.width r.move1 (x_of z) j) (coordinate r.height r.move2 (y_of z) i) (orbit h.O h.N h.S j) (orbit h.L h.M h.T i) h.above a.1 b.1 a.0 b.0
