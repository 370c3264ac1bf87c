use Rattle.std.proofs.Common.{◌≡◌, ◌++◌, ◌-◌, List, ℕ, [], length, take, drop, sym, ap, ◌∙◌, subst, arith, append_assoc, append-nil}
use Rattle.std.specs.Io.KnownBytes.{Appends}
use Rattle.std.proofs.KnownBytes.{Appends-trans}
use Rattle.pq_io.specs.PieceSinks.{joined, pieces_taken}
use Rattle.pq_io.proofs.Pieces.{front_behind, front_of_all, joined_end, joined_first}
use Rattle.pq_io.proofs.piece_sink.PieceSink.push_to.Goals as goal

pub returns-in_err-push_all-clause-front : goal.returns-in_err-push_all-clause-front
returns-in_err-push_all-clause-front g c =
    let left = c.pieces.left.now in
    let tail = c.args.self.now.tail.items in
    let h = c.pieces.invariant.done in
    let behind = joined (take (length left - 1) (drop 1 left)) in
    let parts : joined left ≡ c.deref.result.now ++ behind = joined_first left c.first-item.result c.in-len1-up.len_at_least c.first-item.is ∙ ap (λ (t : List ℕ). t ++ behind) (sym c.deref.ensures.value) in
    front_behind _ _ _ (pieces_taken c.args.self.now) h.0 c.deref.result.now (behind ++ tail) (ap (λ (t : List ℕ). t ++ tail) (h.2 ∙ ap (λ (t : List ℕ). h.0 ++ t) parts) ∙ append_assoc h.0 (c.deref.result.now ++ behind) tail ∙ ap (λ (t : List ℕ). h.0 ++ t) (append_assoc c.deref.result.now behind tail)) h.1 c.in_err-push_all.ensures.front

pub pieces-preserved : goal.pieces-preserved
pieces-preserved g c =
    let left = c.pieces.left.now in
    let h = c.pieces.invariant.done in
    let e = c.in_ok-push_all.ensures in
    let behind = joined (take (length left - 1) (drop 1 left)) in
    let parts : joined left ≡ c.deref.result.now ++ behind = joined_first left c.first-item.result c.in-len1-up.len_at_least c.first-item.is ∙ ap (λ (t : List ℕ). t ++ behind) (sym c.deref.ensures.value) in record {
      done = (h.0 ++ c.deref.result.now, Appends-trans _ _ _ h.0 c.deref.result.now h.1 e.ok, h.2 ∙ ap (λ (t : List ℕ). h.0 ++ t) parts ∙ sym (append_assoc h.0 c.deref.result.now behind));
      later = omega arith;
      wants_later = omega arith;
    }

pub returns-clause-ok : goal.returns-clause-ok
returns-clause-ok g c =
    let tail = c.args.self.now.tail.items in
    let h = c.pieces.invariant.done in
    let none : joined c.pieces.left.now ≡ [] = joined_end c.pieces.left.now (omega (arith, c.in_default.len_below)) in
    let parts : pieces_taken c.args.self.now ≡ h.0 ++ c.deref-2.result.now = ap (λ (t : List ℕ). t ++ tail) (h.2 ∙ ap (λ (t : List ℕ). h.0 ++ t) none ∙ append-nil h.0) ∙ ap (λ (t : List ℕ). h.0 ++ t) (sym c.deref-2.ensures.value) in
    subst (Appends _ _) (sym parts) (Appends-trans _ _ _ h.0 c.deref-2.result.now h.1 c.in_ok-push_all-2.ensures.ok)

pub returns-in_err-push_all-2-clause-front : goal.returns-in_err-push_all-2-clause-front
returns-in_err-push_all-2-clause-front g c =
    let tail = c.args.self.now.tail.items in
    let h = c.pieces.invariant.done in
    let none : joined c.pieces.left.now ≡ [] = joined_end c.pieces.left.now (omega (arith, c.in_default.len_below)) in
    let parts : pieces_taken c.args.self.now ≡ h.0 ++ (c.deref-2.result.now ++ []) = ap (λ (t : List ℕ). t ++ tail) (h.2 ∙ ap (λ (t : List ℕ). h.0 ++ t) none ∙ append-nil h.0) ∙ ap (λ (t : List ℕ). h.0 ++ t) (sym (append-nil _ ∙ c.deref-2.ensures.value)) in
    front_behind _ _ _ (pieces_taken c.args.self.now) h.0 c.deref-2.result.now [] parts h.1 c.in_err-push_all-2.ensures.front

pub returns-clause-front : goal.returns-clause-front
returns-clause-front g c = front_of_all _ _ (pieces_taken c.args.self.now) (returns-clause-ok g c)
