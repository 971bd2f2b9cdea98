-- What comes of a pattern of tiles by a step.
use Rattle.std.proofs.Common.{◌≡◌, ◌⊎◌, ◌∷◌, List, ℕ, length, inl, inr, refl, sym, ap, subst, ◌∙◌}
use Rattle.std.specs.Prelude.{Option, None, Some, Result, Ok, Err, IsErrOf, Bool, true, false, codes}
use Rattle.wt_grid.specs.Grid.{Grid}
use Rattle.wt_tile.specs.declared.tile.TileList.{TileList}
use Rattle.wt_pattern.specs.declared.fault.Fault.{Fault}
use Rattle.wt_pattern.specs.Patterns.{IsPattern}
use Rattle.wt_pattern.specs.Validity.{first_stranger}
use Rattle.wt_pattern.proofs.FaultLaws.{no_stranger}
use Rattle.wt_step.specs.declared.raw.RawLink.{RawLink}
use Rattle.wt_step.specs.declared.coarse.DesubFault.{DesubFault}
use Rattle.wt_step.specs.declared.coarse.DesubFault.TheVariants.{NotValid, TooSmall, OutOfMemory}
use Rattle.wt_step.specs.Links.{fine_of, coarse_of}
use Rattle.wt_step.specs.Coarse.{IsDesubstitution, cuts_low, cuts_high, desub_fault}
use Rattle.wt_chain.specs.Sets.{same_set}
use Rattle.wt_chain.proofs.Run.{same_set_equal}
use Rattle.wt_session.specs.declared.reply.Answer.{Answer}
use Rattle.wt_session.specs.declared.reply.Answer.TheVariants.{Says, Binds}
use Rattle.wt_session.specs.declared.reply.CommandFault.{CommandFault}
use Rattle.wt_session.specs.declared.reply.CommandFault.TheVariants.{Refused, OutOfMemory as CommandOutOfMemory}
use Rattle.wt_session.specs.Sheets.{AreTiles}
use Rattle.wt_session.specs.Said.{Replies, IsRefusal}
use Rattle.wt_session.specs.Replies.{Reply, says, binds, stops, refused}
use Rattle.wt_session.specs.Desub.{IsTakenReply, IsSetReply, coarse_reply}
use Rattle.wt_session.specs.Texts.{not_valid_text}

-- the cells of a valid pattern are tiles
pub coarse_tiles : (set : TileList) (q : Grid) → IsPattern set.tiles q → first_stranger (length set.tiles) q ≡ None
coarse_tiles set q is = no_stranger (length set.tiles) q is.1

-- equal sets have the same tiles
pub same_tiles : (set fine : TileList) (p : Grid) → same_set set fine ≡ true → first_stranger (length set.tiles) p ≡ None → first_stranger (length fine.tiles) p ≡ None
same_tiles set fine p same none = subst (λ (s : TileList). first_stranger (length s.tiles) p ≡ None) (same_set_equal set fine same) none

by_fault : (n : List ℕ) (link : RawLink) (p : Grid) (reply : Reply) (f : Option DesubFault) → desub_fault link p ≡ f → IsTakenReply n link p f reply → IsTakenReply n link p (desub_fault link p) reply
by_fault n link p reply f e h = subst (λ (f : Option DesubFault). IsTakenReply n link p f reply) (sym e) h

-- a pattern that is taken apart
pub taken : (n : List ℕ) (link : RawLink) (p q : Grid) (low high : Bool) (reply : Reply) → ((fault : DesubFault) → desub_fault link p ≡ Some fault → ⊥)
    → IsDesubstitution link p q → IsPattern (coarse_of link).tiles q → low ≡ cuts_low link p → high ≡ cuts_high link p
    → reply ≡ coarse_reply n link q low high → IsTakenReply n link p (desub_fault link p) reply
taken n link p q low high reply never is valid l h r =
    let k : reply ≡ coarse_reply n link q (cuts_low link p) (cuts_high link p) = r ∙ rw (l, h) refl in
    by (desub_fault link p) refl (q, is, valid, k)
  where
    by : (f : Option DesubFault) → desub_fault link p ≡ f → IsTakenReply n link p None reply → IsTakenReply n link p (desub_fault link p) reply
    by None e is = by_fault n link p reply None e is
    by (Some fault) e is = absurd (never fault e)

-- ---- the same of what the code answers

-- a pattern that is taken apart
pub taken_told : {A : Type 0} (n : List ℕ) (link : RawLink) (p q : Grid) (low high : Bool) (made : A) (x : Result Answer CommandFault)
    → ((fault : DesubFault) → desub_fault link p ≡ Some fault → IsErrOf (Ok made) fault) → IsDesubstitution link p q → IsPattern (coarse_of link).tiles q
    → low ≡ cuts_low link p → high ≡ cuts_high link p
    → Replies (λ reply. reply ≡ coarse_reply n link q low high) x → Replies (IsTakenReply n link p (desub_fault link p)) x
taken_told n link p q low high made x never is valid l h r = by x r
  where
    no : (fault : DesubFault) → desub_fault link p ≡ Some fault → ⊥
    no fault e = let k = never fault e in cc

    by : (y : Result Answer CommandFault) → Replies (λ reply. reply ≡ coarse_reply n link q low high) y → Replies (IsTakenReply n link p (desub_fault link p)) y
    by (Ok (Says text)) k = taken n link p q low high (says text) no is valid l h k
    by (Ok (Binds m v text)) k = taken n link p q low high (binds m v text) no is valid l h k
    by (Err (Refused s t)) k = taken n link p q low high (stops s t) no is valid l h k
    by (Err CommandOutOfMemory) k = tt

-- neighbours that don't match
pub clash_told : (n : List ℕ) (link : RawLink) (p : Grid) (fault : Fault) (stopped : CommandFault) → (NotValid fault ≡ OutOfMemory) ⊎ (desub_fault link p ≡ Some (NotValid fault))
    → IsRefusal 1 (not_valid_text fault) stopped → Replies (IsTakenReply n link p (desub_fault link p)) (Err stopped)
clash_told n link p fault stopped (inl e) is = absurd cc
clash_told n link p fault (Refused s t) (inr e) is = by_fault n link p (stops s t) (Some (NotValid fault)) e (let k : stops s t ≡ refused (not_valid_text fault) = cc in k)
clash_told n link p fault CommandOutOfMemory (inr e) is = tt

pub small_told : (n : List ℕ) (link : RawLink) (p : Grid) (stopped : CommandFault) → (TooSmall ≡ OutOfMemory) ⊎ (desub_fault link p ≡ Some TooSmall)
    → IsRefusal 1 (codes "refused too small\n") stopped → Replies (IsTakenReply n link p (desub_fault link p)) (Err stopped)
small_told n link p stopped (inl e) is = absurd cc
small_told n link p (Refused s t) (inr e) is = by_fault n link p (stops s t) (Some TooSmall) e (let k : stops s t ≡ refused (codes "refused too small\n") = cc in k)
small_told n link p CommandOutOfMemory (inr e) is = tt

-- the set of the step, or another one
pub own_set : (n : List ℕ) (link : RawLink) (p : Grid) (same : Bool) (x : Result Answer CommandFault) → same ≡ true
    → Replies (IsTakenReply n link p (desub_fault link p)) x → Replies (IsSetReply n link p same) x
own_set n link p true x e h = h
own_set n link p false x e h = absurd cc

pub other_set : (n : List ℕ) (link : RawLink) (p : Grid) (same : Bool) (stopped : CommandFault) → same ≡ false
    → IsRefusal 1 (codes "refused other set\n") stopped → Replies (IsSetReply n link p same) (Err stopped)
other_set n link p true stopped e is = absurd cc
other_set n link p false (Refused s t) e is = let k : stops s t ≡ refused (codes "refused other set\n") = cc in k
other_set n link p false CommandOutOfMemory e is = tt

-- the cells of a pattern over a set are its tiles
pub tiles_over : (over : Option TileList) (set : TileList) (p : Grid) → AreTiles over p → over ≡ Some set → first_stranger (length set.tiles) p ≡ None
tiles_over None set p are e = absurd cc
tiles_over (Some other) set p are e = let k : other ≡ set = cc in subst (λ (s : TileList). first_stranger (length s.tiles) p ≡ None) k are
