-- Why a file in memory is not rewritten.
use Rattle.std.specs.Option.{unwrap_or}
use Rattle.std.proofs.Common.{◌≡◌, ◌≢◌, inl, inr, ℕ, ◌<◌, List, ◌++◌, length, Option, Some, None, Result, Ok, Err, IfErr, refl, sym, subst, ap, ◌∙◌, arith}
use Rattle.std.proofs.lemmas.List.{append-nil, length-append}
use Rattle.std.specs.Io.KnownBytes.{Consumes, IsAtEnd}
use Rattle.columns_base.specs.declared.error.A.TheVariants.{A1, A8}
use Rattle.columns_base.specs.declared.error.Error.{Error}
use Rattle.columns_base.specs.declared.error.Error.TheVariants.{InputLimit, InvalidArgumentError, Memory, NotYetImplemented, OutOfSpec, Overflow, ReadFault, WriteFault}
use Rattle.columns_base.specs.declared.error.Limit.TheVariants.{Bytes, Pairs}
use Rattle.pq_headline.specs.Rows.{Seen}
use Rattle.pq_headline.specs.Stages.{Refuses}
use Rattle.pq_io.specs.Reading.{GavePast}
use Rattle.rewrite_whole.specs.Answer.{Ends, Refused, Rewrote, meaning}
use Rattle.rewrite_whole.specs.Asks.{Causes, Gives}
use Rattle.rewrite_notes.specs.declared.report.Report.{Report}
use Rattle.sample_run.specs.Files.{plain_codec, sample_asked, sample_options}
use Rattle.sample_run.specs.Refused.{IsNotRewritten}

-- the bytes that a source gives which tells them
gave : (input bytes : List ℕ) (left : Option (List ℕ)) → Consumes (Some input) left bytes → IsAtEnd left → bytes ≡ input
gave input bytes None c e = absurd c
gave input bytes (Some xs) c e = sym (append-nil bytes) ∙ ap (λ r. bytes ++ r) (sym e) ∙ sym c

past : (limit : ℕ) (input : List ℕ) (left : Option (List ℕ)) → GavePast limit (Some input) left → limit < length input
past limit input None g = absurd g.1
past limit input (Some xs) g = omega (arith, ap length g.1, length-append g.0 xs, g.2)

caused : (limit : ℕ) (input : List ℕ) (before now : Option (List (List Seen))) (ends : Ends) (e : Error)
    → ends.left_old ≡ Some input → Refused (meaning (Gives plain_codec sample_asked before now) (Causes plain_codec sample_asked)) limit ends e → Refuses plain_codec sample_asked input e
unfolding Causes
caused limit input before now ends e o r =
    let given : Consumes (Some input) ends.left_new r.0 = subst (λ held. Consumes held ends.left_new r.0) o r.1.given in
    subst (λ bytes. Refuses plain_codec sample_asked bytes e) (gave input r.0 ends.left_new given r.1.end) r.2

pub not_rewritten : (r : Result Report Error) (input : List ℕ) (before now : Option (List (List Seen))) (ends : Ends)
    → ends.left_old ≡ Some input → ends.reads_new ≡ 0 → ends.writes_new ≡ 0
    → Rewrote (meaning (Gives plain_codec sample_asked before now) (Causes plain_codec sample_asked)) sample_options.byte_limit ends r → IfErr r (IsNotRewritten input)
not_rewritten (Ok report) input before now ends o s k h = tt
not_rewritten (Err ReadFault) input before now ends o s k h = absurd (omega (arith, h, s))
not_rewritten (Err WriteFault) input before now ends o s k h = absurd (omega (arith, h.0, k))
not_rewritten (Err (InputLimit Bytes)) input before now ends o s k h = inr (inl (refl, past sample_options.byte_limit input ends.left_new (subst (λ held. GavePast sample_options.byte_limit held ends.left_new) o h)))
not_rewritten (Err (InputLimit Pairs)) input before now ends o s k h = inr (inr (caused sample_options.byte_limit input before now ends (InputLimit Pairs) o h))
not_rewritten (Err (OutOfSpec x)) input before now ends o s k h = inr (inr (caused sample_options.byte_limit input before now ends (OutOfSpec x) o h))
not_rewritten (Err (NotYetImplemented x)) input before now ends o s k h = inr (inr (caused sample_options.byte_limit input before now ends (NotYetImplemented x) o h))
not_rewritten (Err (InvalidArgumentError A1)) input before now ends o s k h = absurd h
not_rewritten (Err (InvalidArgumentError A8)) input before now ends o s k h = absurd h
not_rewritten (Err (InvalidArgumentError x)) input before now ends o s k h = inr (inr (caused sample_options.byte_limit input before now ends (InvalidArgumentError x) o h))
not_rewritten (Err (Overflow x)) input before now ends o s k h = inr (inr (caused sample_options.byte_limit input before now ends (Overflow x) o h))
not_rewritten (Err Memory) input before now ends o s k h = inl refl

pub some_rows : ◌≢◌ {A = Option ℕ} (Some 1000) (Some 0)
some_rows e = absurd (omega (arith, ap (λ o. unwrap_or o 1) e))
