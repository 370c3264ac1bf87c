-- Refusals that are passed on.
use Rattle.std.proofs.Common.{◌≡◌, sym, subst, inl, inr}
use Rattle.std.specs.Prelude.{Result, Ok, Err, OnErr, IfOk, IfErr, IsErrAnd}
use Rattle.columns_base.specs.declared.error.Error.{Error}
use Rattle.pq_tree.specs.Reads.{Refuses}

pub on_err : {T E : Type 0} (r : Result T E) (P : Type 0) → P → OnErr r P
on_err (Ok x) P p = tt
on_err (Err e) P p = p

-- Where a value of the whole has a part, and no part stands in its relation, no whole does.
pub refuses_more : {A B : Type 0} (reason e : Error) (R : A → Type 0) (Q : B → Type 0) → ((b : B) → Q b → (a : A) × R a) → Refuses reason R e → Refuses reason Q e
refuses_more reason e R Q part h = elim h [ inl m ↦ inl m | inr n ↦ inr (n.0, λ b q. n.1 (part b q).0 (part b q).1) ]

-- the same of a result that is passed on
pub if_err_more : {T E : Type 0} (r : Result T E) (P Q : E → Type 0) → ((e : E) → P e → Q e) → IfErr r P → IfErr r Q
if_err_more (Ok x) P Q f h = tt
if_err_more (Err e) P Q f h = f e h

pub on_err_more : {T E : Type 0} (r : Result T E) (P Q : Type 0) → (P → Q) → OnErr r P → OnErr r Q
on_err_more (Ok x) P Q f h = tt
on_err_more (Err e) P Q f h = f h

pub if_ok_more : {T E : Type 0} (r : Result T E) (P Q : T → Type 0) → ((x : T) → P x → Q x) → IfOk r P → IfOk r Q
if_ok_more (Ok x) P Q f h = f x h
if_ok_more (Err e) P Q f h = tt

-- at the exit of a `?`, where the error is handed on as it is
pub err_exit : {T E : Type 0} (r : Result T E) (Q : E → Type 0) (x : E) → IsErrAnd r (λ e. e ≡ x) → Q x → IfErr r Q
err_exit (Ok y) Q x h q = absurd h
err_exit (Err e) Q x h q = subst Q (sym h) q
