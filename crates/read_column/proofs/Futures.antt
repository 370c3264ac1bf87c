-- Whatever would follow behind the first error of a source.
use Rattle.std.proofs.Common.{◌≡◌, ◌⊎◌, inl, inr, ℕ, Bool, All, List, [], ◌∷◌, ◌++◌, refl, ap, sym, subst, ◌∙◌, append_assoc}
use Rattle.std.proofs.lemmas.List.Elements.{All-append, All-cons, All-head, All-nil, All-tail}
use Rattle.columns_base.specs.declared.error.Error.{Error}
use Rattle.columns_base.specs.declared.error.Error.TheVariants.{NotYetImplemented, OutOfSpec}
use Rattle.columns_base.specs.declared.error.N.TheVariants.{N4}
use Rattle.columns_base.specs.declared.error.S.TheVariants.{S3}
use Rattle.pq_files.specs.Reasons.{AnyOf}
use Rattle.pq_pages.specs.Outcomes.{Outcome, gives_page, gives_dictionary, fails, IsGiven}
use Rattle.read_pieces.specs.Columns.{ColumnOpening, FailsAs, RefusesPiece}
use Rattle.read_walk.specs.Values.{Stored}
use Rattle.shredding.specs.Shred.{Triple}
use Rattle.read_column.specs.Dictionary.{Means}
use Rattle.read_column.specs.Foreseen.{FollowsGiven, SourceFails, foreseen}
use Rattle.read_column.specs.Queues.{Waiting}
use Rattle.read_column.specs.Reading.{IsReading, reading}

-- The loop over pages: whatever follows, what was read so far is that of the pages taken, which were the first.
pub record IsFilling (stored : List ℕ → List Stored) (limit : ℕ) (before after : List Outcome) (d d' : Means) (q q' : Waiting) (b b' : Bool) : Type 0 where
  pub reads : (o : ColumnOpening) (pieces : List (List Triple)) (others : List Outcome) → IsReading stored limit o pieces (reading (foreseen before others) d q b) → IsReading stored limit o pieces (reading (foreseen after others) d' q' b')
  pub behind : FollowsGiven before after

any-after : (P : Outcome → Type 0) (front os : List Outcome) → AnyOf P os → AnyOf P (front ++ os)
any-after P [] os a = a
any-after P (x ∷ front) os a = inr (any-after P front os a)

pub fails-before : (e : Error) (o : ColumnOpening) (before after : List Outcome) → FollowsGiven before after → SourceFails e after ⊎ RefusesPiece o e → SourceFails e before ⊎ RefusesPiece o e
fails-before e o before after f (inl a) = inl (subst (SourceFails e) (sym f.2) (any-after (λ x. x ≡ fails e) f.0 after a))
fails-before e o before after f (inr r) = inr r

pub before-behind : (a b c : List Outcome) → FollowsGiven a b → FollowsGiven b c → FollowsGiven a c
before-behind a b c f h = (f.0 ++ h.0, All-append IsGiven f.0 h.0 f.1 h.1, f.2 ∙ (ap (λ (os : List Outcome). f.0 ++ os) h.2 ∙ sym (append_assoc f.0 h.0 c)))

pub behind-one : (x : Outcome) (before after : List Outcome) → IsGiven x → before ≡ x ∷ after → FollowsGiven before after
behind-one x before after g e = (x ∷ [], All-cons IsGiven x [] g (All-nil IsGiven), e)

-- behind the first error stands what the source has there
abbrev pub its-own : List Outcome → List Outcome
its-own [] = []
its-own (gives_page p levels ∷ os) = its-own os
its-own (gives_dictionary n body ∷ os) = its-own os
its-own (fails e ∷ os) = fails e ∷ os

pub own-foreseen : (os : List Outcome) → foreseen os (its-own os) ≡ os
own-foreseen [] = refl
own-foreseen (gives_page p levels ∷ os) = ap (λ (xs : List Outcome). gives_page p levels ∷ xs) (own-foreseen os)
own-foreseen (gives_dictionary n body ∷ os) = ap (λ (xs : List Outcome). gives_dictionary n body ∷ xs) (own-foreseen os)
own-foreseen (fails e ∷ os) = refl

own-after : (front os others : List Outcome) → All IsGiven front → foreseen (front ++ os) others ≡ front ++ os → foreseen os others ≡ os
own-after [] os others g e = e
own-after (gives_page p levels ∷ front) os others g e = own-after front os others (All-tail IsGiven (gives_page p levels) front g) (cc e)
own-after (gives_dictionary n body ∷ front) os others g e = own-after front os others (All-tail IsGiven (gives_dictionary n body) front g) (cc e)
own-after (fails x ∷ front) os others g e = absurd (All-head IsGiven (fails x) front g)

-- what is still to come stands there as before
pub own-behind : (before after : List Outcome) → FollowsGiven before after → foreseen after (its-own before) ≡ after
own-behind before after f = own-after f.0 after (its-own before) f.1 (subst (λ (os : List Outcome). foreseen os (its-own before) ≡ os) f.2 (own-foreseen before))

-- where the source has failed, that is a cause
pub refuses-own : (stored : List ℕ → List Stored) (limit : ℕ) (o : ColumnOpening) (pieces : List (List Triple)) (os : List Outcome) (d : Means) (q : Waiting) (b : Bool) (e : Error) → IsReading stored limit o pieces (reading os d q b) → SourceFails e os ⊎ RefusesPiece o e → RefusesPiece o e
refuses-own stored limit o pieces os d q b e r (inr x) = x
refuses-own stored limit o pieces os d q b e r (inl a) =
    let all : AnyOf (λ x. x ≡ fails e) o.outcomes = subst (λ (xs : List Outcome). AnyOf (λ x. x ≡ fails e) xs) (sym r.outcomes) (any-after (λ x. x ≡ fails e) r.taken os a) in
    inr (inl (failing e o.outcomes r.readable.failing all, all))
  where
    failing : (e : Error) (xs : List Outcome) → All FailsAs xs → AnyOf (λ x. x ≡ fails e) xs → (e ≡ OutOfSpec S3) ⊎ (e ≡ NotYetImplemented N4)
    failing e [] h a = absurd a
    failing e (x ∷ xs) h (inl is) = subst FailsAs is (All-head FailsAs x xs h)
    failing e (x ∷ xs) h (inr more) = failing e xs (All-tail FailsAs x xs h) more

pub own-reading : (stored : List ℕ → List Stored) (limit : ℕ) (o : ColumnOpening) (pieces : List (List Triple)) (after others : List Outcome) (d : Means) (q : Waiting) (b : Bool) → foreseen after others ≡ after → IsReading stored limit o pieces (reading (foreseen after others) d q b) → IsReading stored limit o pieces (reading after d q b)
own-reading stored limit o pieces after others d q b e r = subst (λ (os : List Outcome). IsReading stored limit o pieces (reading os d q b)) e r
