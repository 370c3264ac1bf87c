-- What a run says, by its answer.
use Rattle.std.proofs.Common.{◌≡◌, ◌≢◌, ◌⊎◌, ◌↔◌, inl, inr, ◌≤◌, ℕ, zero, suc, List, ◌++◌, length, Option, Some, None, Result, Ok, Err, refl, sym, ap, subst, ◌∙◌, arith}
use Rattle.std.specs.Prelude.{IsErrOf}
use Rattle.std.proofs.lemmas.List.{append-nil, length-append}
use Rattle.columns_base.specs.declared.error.Error.{Error}
use Rattle.columns_base.specs.declared.error.Error.TheVariants.{ReadFault, WriteFault, InputLimit, OutOfSpec, NotYetImplemented, InvalidArgumentError, Overflow, Memory}
use Rattle.columns_base.specs.declared.error.Limit.TheVariants.{Bytes, Pairs}
use Rattle.columns_base.specs.declared.error.A.TheVariants.{A1, A8}
use Rattle.pq_io.specs.Causes.{Rose}
use Rattle.pq_io.specs.Reading.{GaveAll, GavePast}
use Rattle.pq_headline.specs.Laws.{RefusedIsNotValid}
use Rattle.pq_headline.specs.Rewrites.{Asked, Codec}
use Rattle.pq_headline.specs.Stages.{Valid}
use Rattle.rewrite_words.specs.declared.options.RewriteOptions.{RewriteOptions}
use Rattle.rewrite_whole.specs.Answer.{Ends, KeptUnlessWritten, Meaning, Refused, Rewrote}
use Rattle.rewrite_whole.specs.Asks.{Causes, asked_by}
use Rattle.pq_rewrite.specs.Ended.{Answered, AreDeclined, AreTaken, Declines, Ended}
use Rattle.rewrite_notes.specs.Notes.{line, status}
use Rattle.pq_rewrite.specs.Run.{Held, IsRefusedFor}
use Rattle.rewrite_notes.specs.declared.report.Report.{Report}

by_cause : (m : Meaning) (limit : ℕ) (e : Ends) (tells : List ℕ → Type 0) (n : ℕ) (x : Error) → n ≡ status (Err x) → tells (line (Err x)) → Refused m limit e x → (y : Error) × IsRefusedFor m.refuses limit e.left_old e.left_new tells n y
by_cause m limit e tells n x s t r = (x, record { is_status = s; told = t; cause = inr r })

pub refused_for : (m : Meaning) (limit : ℕ) (e : Ends) (tells : List ℕ → Type 0) (kept : Type 0) (n : ℕ) → Answered m limit e tells kept n → 5 ≤ n → n ≤ 9 → (y : Error) × IsRefusedFor m.refuses limit e.left_old e.left_new tells n y
refused_for m limit e tells kept n (Ok report, s, t, r, k) low high = absurd (omega (arith, s, low))
refused_for m limit e tells kept n (Err ReadFault, s, t, r, k) low high = absurd (omega (arith, s, low))
refused_for m limit e tells kept n (Err WriteFault, s, t, r, k) low high = absurd (omega (arith, s, low))
refused_for m limit e tells kept n (Err (InputLimit Bytes), s, t, r, k) low high = (InputLimit Bytes, record { is_status = s; told = t; cause = inl (refl, r) })
refused_for m limit e tells kept n (Err (InputLimit Pairs), s, t, r, k) low high = by_cause m limit e tells n (InputLimit Pairs) s t r
refused_for m limit e tells kept n (Err (OutOfSpec x), s, t, r, k) low high = by_cause m limit e tells n (OutOfSpec x) s t r
refused_for m limit e tells kept n (Err (NotYetImplemented x), s, t, r, k) low high = by_cause m limit e tells n (NotYetImplemented x) s t r
refused_for m limit e tells kept n (Err (InvalidArgumentError A1), s, t, r, k) low high = absurd r
refused_for m limit e tells kept n (Err (InvalidArgumentError A8), s, t, r, k) low high = absurd r
refused_for m limit e tells kept n (Err (InvalidArgumentError x), s, t, r, k) low high = by_cause m limit e tells n (InvalidArgumentError x) s t r
refused_for m limit e tells kept n (Err (Overflow x), s, t, r, k) low high = by_cause m limit e tells n (Overflow x) s t r
refused_for m limit e tells kept n (Err Memory, s, t, r, k) low high = absurd (omega (arith, s, high))

-- ---- a valid input

whole_held : (limit : ℕ) (held left : Option (List ℕ)) (input : List ℕ) (P : List ℕ → Type 0) → GaveAll limit held left input → P input → Held held P
whole_held limit None left input P g p = tt
whole_held limit (Some xs) None input P g p = absurd g.given
whole_held limit (Some xs) (Some ys) input P g p = subst P (sym (g.given ∙ ap (λ q. input ++ q) g.end ∙ append-nil input)) p

past_held : (codec : Codec) (asked : Asked) (limit : ℕ) (held left : Option (List ℕ)) → asked.byte_limit ≡ limit → GavePast limit held left → Held held (λ bytes. ¬ Valid codec asked bytes)
past_held codec asked limit None left e g = tt
past_held codec asked limit (Some xs) None e g = absurd g.1
past_held codec asked limit (Some xs) (Some ys) e g = λ v. omega (arith, v.1, ap length g.1, length-append g.0 ys, g.2, e)

not_valid : (codec : Codec) (asked : Asked) (bytes : List ℕ) (x : Error) → RefusedIsNotValid → Causes codec asked bytes x → ¬ Valid codec asked bytes
unfolding Causes
not_valid codec asked bytes x law c = law codec asked bytes x c

abbrev IsComplete : Codec → Asked → Ends → ℕ → Type 0
IsComplete codec asked e n = Rose e.reads_old e.reads_new ⊎ Rose e.writes_old e.writes_new ⊎ (n ≡ 0) ⊎ (n ≡ 10) ⊎ Held e.left_old (λ bytes. ¬ Valid codec asked bytes)

invalid : (codec : Codec) (asked : Asked) (gives : List ℕ → List ℕ → Report → Type 0) (limit n : ℕ) (e : Ends) (x : Error) → RefusedIsNotValid → Refused (record { gives = gives; refuses = Causes codec asked }) limit e x → IsComplete codec asked e n
invalid codec asked gives limit n e x law r = inr (inr (inr (inr (whole_held limit e.left_old e.left_new r.0 (λ bytes. ¬ Valid codec asked bytes) r.1 (not_valid codec asked r.0 x law r.2)))))

pub complete_by : (codec : Codec) (asked : Asked) (gives : List ℕ → List ℕ → Report → Type 0) (limit : ℕ) (e : Ends) (tells : List ℕ → Type 0) (kept : Type 0) (n : ℕ) → RefusedIsNotValid → asked.byte_limit ≡ limit → Answered (record { gives = gives; refuses = Causes codec asked }) limit e tells kept n → IsComplete codec asked e n
complete_by codec asked gives limit e tells kept n law eq (Ok report, s, t, r, k) = inr (inr (inl s))
complete_by codec asked gives limit e tells kept n law eq (Err ReadFault, s, t, r, k) = inl r
complete_by codec asked gives limit e tells kept n law eq (Err WriteFault, s, t, r, k) = inr (inl r.0)
complete_by codec asked gives limit e tells kept n law eq (Err (InputLimit Bytes), s, t, r, k) = inr (inr (inr (inr (past_held codec asked limit e.left_old e.left_new eq r))))
complete_by codec asked gives limit e tells kept n law eq (Err (InputLimit Pairs), s, t, r, k) = invalid codec asked gives limit n e (InputLimit Pairs) law r
complete_by codec asked gives limit e tells kept n law eq (Err (OutOfSpec x), s, t, r, k) = invalid codec asked gives limit n e (OutOfSpec x) law r
complete_by codec asked gives limit e tells kept n law eq (Err (NotYetImplemented x), s, t, r, k) = invalid codec asked gives limit n e (NotYetImplemented x) law r
complete_by codec asked gives limit e tells kept n law eq (Err (InvalidArgumentError A1), s, t, r, k) = absurd r
complete_by codec asked gives limit e tells kept n law eq (Err (InvalidArgumentError A8), s, t, r, k) = absurd r
complete_by codec asked gives limit e tells kept n law eq (Err (InvalidArgumentError x), s, t, r, k) = invalid codec asked gives limit n e (InvalidArgumentError x) law r
complete_by codec asked gives limit e tells kept n law eq (Err (Overflow x), s, t, r, k) = invalid codec asked gives limit n e (Overflow x) law r
complete_by codec asked gives limit e tells kept n law eq (Err Memory, s, t, r, k) = inr (inr (inr (inl s)))

-- ---- a chunk size of no rows

some_rows : (n : ℕ) → Some (suc n) ≡ Some 0 → ⊥
some_rows n e = absurd cc

whole_groups : (c : Option ℕ) → c ≡ None → c ≡ Some 0 → ⊥
whole_groups c n e = absurd cc

rows_or : (c : Option ℕ) → (c ≡ Some 0) ⊎ (c ≢ Some 0)
rows_or None = inr (whole_groups None refl)
rows_or (Some zero) = inl refl
rows_or (Some (suc n)) = inr (some_rows n)

declined : (o : RewriteOptions) (tells : List ℕ → Type 0) (untouched : Type 0) (answer : Result Report Error) (n : ℕ) (x : Error) → Declines o x → answer ≡ Err x → untouched → n ≡ status answer → tells (line answer) → AreDeclined o tells untouched n
declined o tells untouched answer n x d e u s t = record { reason = x; declines = d; is_status = s ∙ ap status e; told = subst (λ a. tells (line a)) e t; untouched = u }

-- what a call says, by what its rewrite answered
pub ended_by : (o : RewriteOptions) (m : Meaning) (e : Ends) (tells : List ℕ → Type 0) (untouched kept : Type 0) (answer : Result Report Error) (n : ℕ)
    → (IsErrOf answer (InvalidArgumentError A1) ↔ (o.chunk_size ≡ Some 0))
    → (o.chunk_size ≡ Some 0 → untouched)
    → (o.chunk_size ≢ Some 0 → Rewrote m o.byte_limit e answer)
    → KeptUnlessWritten kept answer
    → n ≡ status answer → tells (line answer) → Ended o m e tells untouched kept n
ended_by o m e tells untouched kept answer n a1 same said k s t = elim (rows_or o.chunk_size) [
  | inl z ↦ inl (declined o tells untouched answer n (InvalidArgumentError A1) (refl, z) (a1.1 z) (same z) s t)
  | inr h ↦ inr (h, (answer, s, t, said h, k))
]

-- ---- what follows of it

pub refused_by : (o : RewriteOptions) (m : Meaning) (e : Ends) (tells : List ℕ → Type 0) (untouched kept : Type 0) (n : ℕ) → Ended o m e tells untouched kept n → 5 ≤ n → n ≤ 9 → AreDeclined o tells untouched n ⊎ ((y : Error) × IsRefusedFor m.refuses o.byte_limit e.left_old e.left_new tells n y)
refused_by o m e tells untouched kept n (inl d) low high = inl d
refused_by o m e tells untouched kept n (inr h) low high = inr (refused_for m o.byte_limit e tells kept n h.1 low high)

not_taken : (o : RewriteOptions) (tells : List ℕ → Type 0) (untouched : Type 0) (n : ℕ) → AreDeclined o tells untouched n → AreTaken o → ⊥
not_taken o tells untouched n d h = h d.declines.1

pub answered_by : (o : RewriteOptions) (m : Meaning) (e : Ends) (tells : List ℕ → Type 0) (untouched kept : Type 0) (n : ℕ) → Ended o m e tells untouched kept n → AreTaken o → Answered m o.byte_limit e tells kept n
answered_by o m e tells untouched kept n (inl d) h = absurd (not_taken o tells untouched n d h)
answered_by o m e tells untouched kept n (inr a) h = a.1

same_options : (o p : RewriteOptions) → Some o ≡ Some p → o ≡ p
same_options o p e = cc

-- of the options that the words ask for, however they are called
pub complete_as : (codec : Codec) (o p : RewriteOptions) (gives : List ℕ → List ℕ → Report → Type 0) (e : Ends) (tells : List ℕ → Type 0) (untouched kept : Type 0) (n : ℕ) → RefusedIsNotValid → Some o ≡ Some p → Ended o (record { gives = gives; refuses = Causes codec (asked_by o) }) e tells untouched kept n → AreTaken p → IsComplete codec (asked_by p) e n
complete_as codec o p gives e tells untouched kept n law same ended taken =
    subst (λ (q : RewriteOptions). AreTaken q → IsComplete codec (asked_by q) e n) (same_options o p same) (λ t. complete_by codec (asked_by o) gives o.byte_limit e tells kept n law refl (answered_by o (record { gives = gives; refuses = Causes codec (asked_by o) }) e tells untouched kept n ended t)) taken

-- the same where they are declined
pub declined_as : (o p : RewriteOptions) (m : Meaning) (e : Ends) (tells : List ℕ → Type 0) (untouched kept : Type 0) (n : ℕ) → Some o ≡ Some p → Ended o m e tells untouched kept n → (¬ AreTaken p) → AreDeclined p tells untouched n
declined_as o p m e tells untouched kept n same ended =
    subst (λ (q : RewriteOptions). (¬ AreTaken q) → AreDeclined q tells untouched n) (same_options o p same) (by ended)
  where
    by : Ended o m e tells untouched kept n → (¬ AreTaken o) → AreDeclined o tells untouched n
    by (inl d) t = d
    by (inr h) t = absurd (t h.0)
