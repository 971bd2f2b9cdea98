-- Classes of markers.
use Rattle.std.specs.Prelude.{◌≡◌, ◌↔◌, ℕ, ◌<◌, Bool, true, false, ◌&&◌, ◌||◌, not, max, min, nat_eq, if◌then◌else◌, List, [], ◌∷◌, map, slice_index, slice_get, Some}
use Rattle.std.specs.List.{range_with_len, list_any}
use Rattle.wt_grid.specs.Order.{in_order, is_below, agree, comes_before}
use Rattle.wt_grid.specs.Axes.{other}
use Rattle.wt_grid.specs.declared.axis.Axis.{Axis}
use Rattle.wt_window.specs.Surrounded.{on}
use Rattle.wt_marker.specs.Gather.{gather, only_if, any_from, fold_from}

-- a is a tile of the class
abbrev pub is_in : List ℕ → ℕ → Bool
is_in c a = list_any (nat_eq a) c

-- the two form a domino of f, in either order
abbrev pub touches : (ℕ → ℕ → Bool) → ℕ → ℕ → Bool
touches f a b = f a b || f b a

-- from a over the tiles of a walk to b, each forming a domino with the one before
abbrev pub IsWalk : ℕ → (ℕ → ℕ → Bool) → ℕ → List ℕ → ℕ → Type 0
IsWalk n f a [] b = a ≡ b
IsWalk n f a (c ∷ cs) b = (c < n) × (touches f a c ≡ true) × IsWalk n f c cs b

-- tiles below n that dominoes of f join, over any number of others
abbrev pub AreJoined : ℕ → (ℕ → ℕ → Bool) → ℕ → ℕ → Type 0
AreJoined n f a b = (walk : List ℕ) × IsWalk n f a walk b

-- A kept class of n tiles: all tiles that the dominoes f of the other axis join, ascending. No domino of
-- the axis is inside, and one of them has a tile outside and then one of the class.
pub record IsKeptClass (n : ℕ) (f g : ℕ → ℕ → Bool) (c : List ℕ) : Type 0 where
  pub ascending : in_order (is_below n) comes_before c ≡ true
  pub whole : (t a : ℕ) → is_in c t ≡ true → a < n → (is_in c a ≡ true) ↔ AreJoined n f t a
  pub apart : (a b : ℕ) → is_in c a ≡ true → is_in c b ≡ true → g a b ≡ false
  pub entered : (a : ℕ) × (b : ℕ) × (a < n) × (is_in c a ≡ false) × (is_in c b ≡ true) × (g a b ≡ true)

-- a tile of the one class is less than all tiles of the other
abbrev pub BeginsBelow : List ℕ → List ℕ → Type 0
BeginsBelow c d = (t : ℕ) × (is_in c t ≡ true) × ((b : ℕ) → is_in d b ≡ true → t < b)

-- How they are found: each tile has a label, that of its class, which is the least tile of it.

-- the label of tile a
abbrev pub label : List ℕ → ℕ → ℕ
label labels a = slice_index labels a

-- the new label in place of the old one, and each other label as it is
abbrev pub instead : ℕ → ℕ → ℕ → ℕ
instead old new l = if nat_eq l old then new else l

-- the classes of a and b made one, with the lesser label
abbrev pub join : List ℕ → ℕ → ℕ → List ℕ
join labels a b = map (instead (max (label labels a) (label labels b)) (min (label labels a) (label labels b))) labels

-- the classes of a and b made one, where the two form a domino
abbrev pub join_at : (ℕ → ℕ → Bool) → ℕ → List ℕ → ℕ → List ℕ
join_at f a labels b = if f a b then join labels a b else labels

-- the class of a joined with those of all tiles that it forms a domino with
abbrev pub join_row : (ℕ → ℕ → Bool) → ℕ → List ℕ → ℕ → List ℕ
join_row f n labels a = fold_from (join_at f a) labels 0 n

-- each tile alone, and then joined along all dominoes
abbrev pub labels_of : (ℕ → ℕ → Bool) → ℕ → List ℕ
labels_of f n = fold_from (join_row f n) (range_with_len 0 n) 0 n

-- a is in the class of t
abbrev pub has_label : List ℕ → ℕ → ℕ → Bool
has_label labels t a = nat_eq (label labels a) t

-- the pair a, b is a domino of g with b in the class of t, and a in it or not
abbrev pub meets_at : (ℕ → ℕ → Bool) → List ℕ → ℕ → Bool → ℕ → ℕ → Bool
meets_at g labels t inside b a = agree (has_label labels t a) inside && g a b

-- tile b is in the class of t, and such a domino ends with it
abbrev pub meets_row : (ℕ → ℕ → Bool) → List ℕ → ℕ → ℕ → Bool → ℕ → Bool
meets_row g labels n t inside b = has_label labels t b && any_from (meets_at g labels t inside b) 0 n

-- some domino of g ends in the class of t, and begins in it or not
abbrev pub meets : (ℕ → ℕ → Bool) → List ℕ → ℕ → ℕ → Bool → Bool
meets g labels n t inside = any_from (meets_row g labels n t inside) 0 n

-- t is the least tile of a class that is kept
abbrev pub is_kept : (ℕ → ℕ → Bool) → List ℕ → ℕ → ℕ → Bool
is_kept g labels n t = has_label labels t t && not (meets g labels n t true) && meets g labels n t false

-- tile a alone, where it is in the class of t
abbrev pub member_at : List ℕ → ℕ → ℕ → List ℕ
member_at labels t a = only_if (has_label labels t a) a

-- the tiles of the class of t, ascending
abbrev pub class_of : List ℕ → ℕ → ℕ → List ℕ
class_of labels n t = gather (member_at labels t) 0 n

-- the class of t alone, where it is kept and t is its least tile
abbrev pub class_at : (ℕ → ℕ → Bool) → List ℕ → ℕ → ℕ → List (List ℕ)
class_at g labels n t = only_if (is_kept g labels n t) (class_of labels n t)

-- The kept classes of n tiles, by their least tiles: f are the dominoes of the other axis, and g those of
-- the axis.
abbrev pub kept_classes : ℕ → (ℕ → ℕ → Bool) → (ℕ → ℕ → Bool) → List (List ℕ)
kept_classes n f g = gather (class_at g (labels_of f n) n) 0 n

-- the kept classes of n tiles for markers of an axis, where the dominoes of axis 1 and of axis 2 are these
abbrev pub kept_on : ℕ → Axis → (ℕ → ℕ → Bool) → (ℕ → ℕ → Bool) → List (List ℕ)
kept_on n axis one two = kept_classes n (on (other axis) one two) (on axis one two)

-- the classes stand in the order of their least tiles
abbrev pub AreByLeast : List (List ℕ) → Type 0
AreByLeast cs = (i j : ℕ) (c d : List ℕ) → slice_get cs i ≡ Some c → slice_get cs j ≡ Some d → i < j → BeginsBelow c d
