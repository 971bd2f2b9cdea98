-- One word more in a table.
use Rattle.std.proofs.Common.{arith, ◌≡◌, ◌≤◌, ◌<◌, ◌+◌, ◌-◌, ◌++◌, ℕ, List, length, get_or, set, take, drop, sym, ◌∙◌, ap, subst, inl, inr}
use Rattle.std.proofs.lemmas.List.{get_or-set_same, get_or-set_other, drop-take, take-take, take_at, drop_at, take_all, length-append, length-take-le}
use Rattle.std.proofs.lemmas.Bool.{cases_lt}
use Rattle.wt_expand.specs.declared.words.WordTable.{WordTable}
use Rattle.wt_expand.specs.WordTables.{IsWord, HasWords}

-- what stands before n is the same
same_before : (b c : List ℕ) (start count n : ℕ) → start + count ≤ n → take n c ≡ take n b → take count (drop start c) ≡ take count (drop start b)
same_before b c start count n le e =
    let front : (x : List ℕ) → take count (drop start x) ≡ drop start (take (start + count) (take n x)) =
    λ (x : List ℕ). sym (drop-take start count x) ∙ ap (drop start) (sym (take-take (start + count) n x le)) in
    front c ∙ ap (λ (x : List ℕ). drop start (take (start + count) x)) e ∙ sym (front b)

apart : (k t : ℕ) → k < t → k ≡ t → ⊥
apart k t less e = absurd (omega (arith, less, e))

-- the table with one word more
abbrev pub longer_table : WordTable → List ℕ → ℕ → WordTable
longer_table table now next = record {
  tiles = now;
  end = next;
  starts = set table.starts table.count table.end;
  lens = set table.lens table.count (next - table.end);
  count = table.count + 1;
}

pub pushed : (table : WordTable) (now : List ℕ) (next : ℕ) (f : ℕ → List ℕ) (word : List ℕ) → HasWords table f → f table.count ≡ word → length word ≤ 64
    → table.end + 64 ≤ 2112 → table.count < 256 → length table.starts ≡ 256 → length table.lens ≡ 256 → length table.tiles ≡ 2112
    → take next now ≡ take (length table.tiles) (take table.end table.tiles ++ word) → next ≤ length now → length now ≡ length table.tiles
    → HasWords (longer_table table now next) f
pushed table now next f word has here few room inside ls ll lt put within same =
    let b = table.tiles in
    let e = table.end in
    let c = table.count in
    let long : length (take e b) ≡ e = length-take-le e b (omega (arith, room, lt)) in
    let sum : length (take e b ++ word) ≡ e + length word = length-append (take e b) word ∙ ap (λ (n : ℕ). n + length word) long in
    let all : take next now ≡ take e b ++ word = put ∙ take_all (length b) (take e b ++ word) (omega (arith, sum, few, room, lt)) in
    let size : next ≡ e + length word = sym (length-take-le next now within) ∙ ap length all ∙ sum in
    let front : take e now ≡ take e b = sym (take-take e next now (omega (arith, size))) ∙ ap (take e) all ∙ take_at (take e b) word e long in
    let rest : e + (next - e) ≡ next = omega (arith, size) in
    let new : take (next - e) (drop e now) ≡ word =
    sym (drop-take e (next - e) now) ∙ ap (λ (n : ℕ). drop e (take n now)) rest ∙ ap (drop e) all ∙ drop_at (take e b) word e long in
    record {
      within = omega (arith, inside);
      room = omega (arith, within, same, lt);
      each = λ k le. elim (cases_lt k c) [
        | inl less ↦ (
            let is = has.each k less in
            let s : get_or (set table.starts c e) k 0 ≡ get_or table.starts k 0 = get_or-set_other table.starts c k e 0 (apart k c less) in
            let n : get_or (set table.lens c (next - e)) k 0 ≡ get_or table.lens k 0 = get_or-set_other table.lens c k (next - e) 0 (apart k c less) in
            record {
              place = omega (arith, s, is.place);
              few = omega (arith, n, is.few);
              below = omega (arith, s, n, is.below, size);
              is = ap (λ (m : ℕ). take m (drop (get_or (set table.starts c e) k 0) now)) n ∙ ap (λ (m : ℕ). take (get_or table.lens k 0) (drop m now)) s
                  ∙ same_before b now (get_or table.starts k 0) (get_or table.lens k 0) e is.below front ∙ is.is;
            }
            )
        | inr more ↦ (
            let at : c ≡ k = omega (arith, le, more) in
            let s : get_or (set table.starts c e) c 0 ≡ e = get_or-set_same table.starts c e 0 (omega (arith, inside, ls)) in
            let n : get_or (set table.lens c (next - e)) c 0 ≡ next - e = get_or-set_same table.lens c (next - e) 0 (omega (arith, inside, ll)) in
            subst (λ (m : ℕ). IsWord (longer_table table now next) m (f m)) at (record {
              place = omega (arith, s, room);
              few = omega (arith, n, size, few);
              below = omega (arith, s, n, size);
              is = ap (λ (m : ℕ). take m (drop (get_or (set table.starts c e) c 0) now)) n ∙ ap (λ (m : ℕ). take (next - e) (drop m now)) s ∙ new ∙ sym here;
            })
            )
      ];
    }
