use Rattle.std.proofs.Common.{◌≡◌, ◌++◌, List, ℕ, Option, MatchOption, true, length, take, drop, arith, ap, ap₂, sym, subst, ◌∙◌}
use Rattle.columns_base.specs.declared.error.Error.{Error}
use Rattle.columns_core.specs.Bits.{word_bits}
use Rattle.columns_slots.specs.Bytes.{pieces}
use Rattle.read_leaf.specs.Strings.{cut_off, is_each, joined, IsFault, TookStrings}
use Rattle.read_leaf.proofs.Stretches.{appended, whole-rest, front-whole, grown-by, plain-taken, plain-cannot}
use Rattle.read_leaf.proofs.binary.Binary.push_stretch.Goals as goal

pub lay_out-requires : goal.lay_out-requires
lay_out-requires g c =
    let k = c.take_plain-taken.result.count in
    let old = c.self.inside.values.items in
    let new = c.take_plain-taken.new.content.items in
    let strings = whole-rest c.len-before.result c.deref.result.now new old c.deref.ensures.value (omega (arith, c.len-before.ensures, c.self.inside.values.ok.0)) in
    record { whole = (appended (word_bits c.args.valid k) c.args.text.now c.take_plain-taken.result.rest.now (take k c.take_plain-taken.new.lengths) old new c.take_plain-taken.ensures.took).whole ∙ ap length (sym strings) }

pub invariant_of-self : goal.invariant_of-self
invariant_of-self g c =
    let k = c.take_plain-taken.result.count in
    let ns = take k c.take_plain-taken.new.lengths in
    rw c.in-Ok.ensures.ok.2 (grown-by (word_bits c.args.valid k) c.args.text.now c.take_plain-taken.result.rest.now ns c.self.inside.offsets.0 c.self.inside.values.items c.take_plain-taken.new.content.items c.take_plain-taken.ensures.took c.self.invariant).laid

pub returns-in-Ok-clause-ok : goal.returns-in-Ok-clause-ok
returns-in-Ok-clause-ok g c =
    let allows = g.K.StringKind.allows in
    let valid = c.args.valid in
    let n : ℕ = length c.args.lengths.now in
    let k : ℕ = c.take_plain-taken.result.count in
    let ns = take k c.take_plain-taken.new.lengths in
    let os = c.self.inside.offsets.0 in
    let old = c.self.inside.values.items in
    let new = c.take_plain-taken.new.content.items in
    let text = c.args.text.now in
    let rest = c.take_plain-taken.result.rest.now in
    let ss : List (List ℕ) = pieces os old in
    let t = c.take_plain-taken.ensures.took in
    let strings = whole-rest c.len-before.result c.deref.result.now new old c.deref.ensures.value (omega (arith, c.len-before.ensures, c.self.inside.values.ok.0)) in
    let all : k ≡ n = subst (λ (f : Option Error). MatchOption f (k ≡ n) (IsFault (word_bits valid n) text)) c.in-Ok.ensures.ok.0 c.take_plain-taken.ensures.end in
    let are : is_each allows (cut_off ns (drop (length old) new)) ≡ true = rw strings at c.in-Ok.ensures.ok.1 in
    let grew : pieces c.lay_out.new.offsets.0 new ≡ ss ++ cut_off ns (drop (length old) new) = ap (λ (o : List ℕ). pieces o new) c.in-Ok.ensures.ok.2 ∙ (grown-by (word_bits valid k) text rest ns os old new t c.self.invariant).strings in
    rw (← c.self.view_is) (subst (λ (j : ℕ). TookStrings allows (word_bits valid j) text rest ss (pieces c.lay_out.new.offsets.0 new)) all (rw grew (plain-taken allows g.met.K.StringKind.empty (word_bits valid k) text rest ns old new ss t are)))

pub returns-in-Err-clause-err : goal.returns-in-Err-clause-err
returns-in-Err-clause-err g c =
    let k : ℕ = c.take_plain-taken.result.count in
    let ns = take k c.take_plain-taken.new.lengths in
    let os = c.self.inside.offsets.0 in
    let old = c.self.inside.values.items in
    let new = c.take_plain-taken.new.content.items in
    let t = c.take_plain-taken.ensures.took in
    let before : c.len-before.result ≡ length old = omega (arith, c.len-before.ensures, c.self.inside.values.ok.0) in
    let strings = whole-rest c.len-before.result c.deref.result.now new old c.deref.ensures.value before in
    let kept : c.truncate.new.self.items ≡ old = c.truncate.ensures.items ∙ (ap₂ (λ (n : ℕ) (xs : List ℕ). take n xs) before t.bytes ∙ front-whole old (joined t.strings)) in
    rw (← c.self.view_is) (plain-cannot g.K.StringKind.allows g.met.K.StringKind.empty g.O.Offset.limit c.args.valid k (length c.args.lengths.now) c.args.text.now c.take_plain-taken.result.rest.now ns os old new (pieces os old) c.take_plain-taken.result.fault c.in-Err.error c.take_plain-taken.ensures.within t c.take_plain-taken.ensures.end c.self.invariant.last c.self.invariant.all (rw strings at c.in-Err.ensures.err.0), ap₂ pieces c.in-Err.ensures.err.1 kept)
