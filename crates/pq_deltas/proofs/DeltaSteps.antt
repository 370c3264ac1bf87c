-- The steps of a writer of delta packing.
use Rattle.std.proofs.Common.{◌≡◌, ℕ, suc, ◌+◌, ◌*◌, ◌^◌, ◌<◌, ◌≤◌, ℤ, pos, negsuc, ◌-◌, ◌+ℤ◌, ◌-ℤ◌, SFits, List, [], ◌∷◌, ◌++◌, length, All, Option, Some, None, true, false, is_some, refl, sym, ap, subst, ◌∙◌, inl, inr, arith, append-nil, append_assoc}
use Rattle.std.proofs.lemmas.Int.{ints, int_wrap_fits, SFits-int_wrap, int_wrap-add_right, int_wrap-sub_right}
use Rattle.std.proofs.lemmas.List.{length-append}
use Rattle.std.proofs.lemmas.List.Elements.{All-push}
use Rattle.std.specs.Int.{Width, int_wrap, int_rem_euclid, cast_signed, cast_unsigned}
use Rattle.std.specs.Prelude.{unsigned_abs, ◌%◌}
use Rattle.std.proofs.Math.Facts.{sfits_lit}
use mir.Syntax.{w8, w16, w32, w64, w128}
use mir.Val.{bits}
use Rattle.pq_numbers.specs.Varint.{varint}
use Rattle.pq_numbers.specs.Zigzag.{zigzag}
use Rattle.pq_numbers.proofs.Writes.{is_number}
use Rattle.pq_runs.specs.Delta.{IsSums, sums, wrapped}
use Rattle.pq_runs.specs.DeltaWriting.{IsBlock, AppendsDelta, Blocked, after, Going, Begun, Deltas}
use Rattle.pq_runs.specs.WrittenDelta.{WrittenBlocks, no_more}
use Rattle.pq_runs.proofs.DeltaParts.{zigzag_fits}

-- ---- blocks

pub blocked_none : (v : Width) (start : List ℕ) → Blocked v start start [] []
blocked_none v start = record { text = []; done = []; parts = sym (append-nil start); all = refl; fit = λ k d lt. absurd (omega (arith, lt)); closed = λ rest more b. b; size = omega arith }

pub blocked_push : (v : Width) (start out : List ℕ) (pending ds : List ℤ) (d : ℤ) → SFits v d → Blocked v start out pending ds → Blocked v start out (pending ++ d ∷ []) (ds ++ d ∷ [])
blocked_push v start out pending ds d low s = record {
  text = s.text;
  done = s.done;
  parts = s.parts;
  all = sym (append_assoc s.done pending (d ∷ [])) ∙ ap (λ (t : List ℤ). t ++ d ∷ []) s.all;
  fit = All-push (SFits v) pending d s.fit low;
  closed = s.closed;
  size = s.size;
}

pub blocked_flush : (v : Width) (start out out' text : List ℕ) (pending ds : List ℤ) → length pending ≡ 128 → out' ≡ out ++ text → IsBlock v text pending → Blocked v start out pending ds → Blocked v start out' [] ds
blocked_flush v start out out' text pending ds full e block s = record {
  text = s.text ++ text;
  done = s.done ++ pending;
  parts = e ∙ ap (λ (t : List ℕ). t ++ text) s.parts ∙ append_assoc start s.text text;
  all = append-nil (s.done ++ pending) ∙ s.all;
  fit = λ k d lt. absurd (omega (arith, lt));
  closed = λ rest more b. rw (append_assoc s.text text rest, append_assoc s.done pending more) (s.closed (text ++ rest) (pending ++ more) (block.before rest more (inr full) b));
  size = omega (arith, length-append s.text text, length-append s.done pending, s.size, block.size, full);
}

pub blocked_last : (v : Width) (start out out' text : List ℕ) (pending ds : List ℤ) → out' ≡ out ++ text → IsBlock v text pending → Blocked v start out pending ds → (whole : List ℕ) × (out' ≡ start ++ whole) × WrittenBlocks v whole ds × (length whole ≤ 11 * length ds + 262)
blocked_last v start out out' text pending ds e block s =
    let one : WrittenBlocks v text pending = subst (λ (t : List ℕ). WrittenBlocks v t pending) (append-nil text) (subst (λ (zs : List ℤ). WrittenBlocks v (text ++ []) zs) (append-nil pending) (block.before [] [] (inl refl) no_more)) in (
      s.text ++ text,
      e ∙ ap (λ (t : List ℕ). t ++ text) s.parts ∙ append_assoc start s.text text,
      subst (λ (zs : List ℤ). WrittenBlocks v (s.text ++ text) zs) s.all (s.closed text pending one),
      omega (arith, length-append s.text text, ap length s.all, length-append s.done pending, s.size, block.size),
    )

pub blocked_whole : (v : Width) (start out : List ℕ) (pending ds : List ℤ) → pending ≡ [] → Blocked v start out pending ds → (whole : List ℕ) × (out ≡ start ++ whole) × WrittenBlocks v whole ds × (length whole ≤ 11 * length ds + 262)
blocked_whole v start out pending ds none s =
    let all : s.done ≡ ds = sym (append-nil s.done) ∙ ap (λ (t : List ℤ). s.done ++ t) (sym none) ∙ s.all in
    let one : WrittenBlocks v s.text s.done = subst (λ (t : List ℕ). WrittenBlocks v t s.done) (append-nil s.text) (subst (λ (zs : List ℤ). WrittenBlocks v (s.text ++ []) zs) (append-nil s.done) (s.closed [] [] no_more)) in
    (s.text, s.parts, subst (λ (zs : List ℤ). WrittenBlocks v s.text zs) all one, omega (arith, s.size, ap length all))

-- ---- sums

wrapped-is : (w : Width) (z : ℤ) → wrapped w z ≡ int_wrap w z
unfolding int_wrap
wrapped-is w z = refl

wrapped_fits : (v : Width) (z : ℤ) → SFits v z → wrapped v z ≡ z
wrapped_fits v z f = wrapped-is v z ∙ int_wrap_fits v z f

after-push : (z : ℤ) (ds : List ℤ) (d : ℤ) → after z (ds ++ d ∷ []) ≡ after z ds +ℤ d
after-push z [] d = refl
after-push z (x ∷ ds) d = after-push (z +ℤ x) ds d

sums-push : (w : Width) (z : ℤ) (ds : List ℤ) (d : ℤ) → sums w z (ds ++ d ∷ []) ≡ sums w z ds ++ wrapped w (after z ds +ℤ d) ∷ []
sums-push w z [] d = refl
sums-push w z (x ∷ ds) d = ap (λ (t : List ℤ). wrapped w z ∷ t) (sums-push w (z +ℤ x) ds d)

length-sums : (w : Width) (z : ℤ) (ds : List ℤ) → length (sums w z ds) ≡ suc (length ds)
length-sums w z [] = refl
length-sums w z (d ∷ ds) = ap suc (length-sums w (z +ℤ d) ds)

is_sums : (w : Width) (z : ℤ) (ds : List ℤ) → IsSums w z ds (sums w z ds)
is_sums w z [] = refl
is_sums w z (d ∷ ds) = refl

-- the difference modulo 2 to the width leads to the value
next_value : (v : Width) (a latest value d : ℤ) → SFits v value → latest ≡ wrapped v a → d ≡ int_wrap v (value -ℤ latest) → value ≡ wrapped v (a +ℤ d)
next_value v a latest value d fits is e =
    let turn : a +ℤ (value -ℤ int_wrap v a) ≡ (a +ℤ value) -ℤ int_wrap v a = omega (arith, ints) in
    let back : (a +ℤ value) -ℤ a ≡ value = omega (arith, ints) in
    sym (
    wrapped-is v (a +ℤ d)
    ∙ ap (λ (z : ℤ). int_wrap v (a +ℤ z)) e
    ∙ int_wrap-add_right v a (value -ℤ latest)
    ∙ ap (λ (z : ℤ). int_wrap v (a +ℤ (value -ℤ z))) (is ∙ wrapped-is v a)
    ∙ ap (int_wrap v) turn
    ∙ int_wrap-sub_right v (a +ℤ value) a
    ∙ ap (int_wrap v) back
    ∙ int_wrap_fits v value fits
    )

-- the low 32 bits of a number of 64
low_is : (z : ℤ) → SFits w64 z → cast_unsigned w64 z % 2 ^ 32 ≡ unsigned_abs (int_rem_euclid z (pos (2 ^ 32)))
low_is (pos n) f = refl
low_is (negsuc n) f =
    let few : n < 2 ^ 63 = omega (arith, f) in
    let whole : 2 ^ 64 - suc n + n ≡ 2 ^ 64 - 1 = omega (arith, few) in
    omega (arith, whole)

pub low_wraps : (z : ℤ) → SFits w64 z → cast_signed w32 (cast_unsigned w64 z % 2 ^ 32) ≡ int_wrap w32 z
unfolding int_wrap
low_wraps z f = ap (cast_signed w32) (low_is z f)

-- ---- numbers

-- a block of differences of any width that they have
abbrev pub AnyBlock : List ℕ → List ℤ → Type 0
AnyBlock text ds = (u : Width) → All (SFits u) ds → IsBlock u text ds

pub going_first : (v : Width) (start out out' : List ℕ) (pending zs : List ℤ) (value : ℤ) → SFits v value → out ≡ start → pending ≡ [] → zs ≡ [] → out' ≡ out ++ varint (zigzag value) → Going v start out' pending value (zs ++ value ∷ [])
going_first v start out out' pending zs value fits same none empty e =
    let behind : out' ≡ start ++ varint (zigzag value) = e ∙ ap (λ (t : List ℕ). t ++ varint (zigzag value)) same in
    record {
      first = value;
      ds = [];
      fits = fits;
      blocked = subst (λ (t : List ℕ). Blocked v (start ++ varint (zigzag value)) t pending []) (sym behind) (subst (λ (p : List ℤ). Blocked v (start ++ varint (zigzag value)) (start ++ varint (zigzag value)) p []) (sym none) (blocked_none v (start ++ varint (zigzag value))));
      are = ap (λ (t : List ℤ). t ++ value ∷ []) empty ∙ ap (λ (z : ℤ). z ∷ []) (sym (wrapped_fits v value fits));
      ends = sym (wrapped_fits v value fits);
    }

pub going_more : (v : Width) (start out : List ℕ) (pending zs : List ℤ) (latest value d : ℤ) → SFits v value → d ≡ int_wrap v (value -ℤ latest) → Going v start out pending latest zs → Going v start out (pending ++ d ∷ []) value (zs ++ value ∷ [])
going_more v start out pending zs latest value d fits e g =
    let next = next_value v (after g.first g.ds) latest value d fits g.ends e in
    let low : SFits v d = subst (λ (z : ℤ). SFits v z) (sym e) (SFits-int_wrap v (value -ℤ latest)) in
    record {
      first = g.first;
      ds = g.ds ++ d ∷ [];
      fits = g.fits;
      blocked = blocked_push v (start ++ varint (zigzag g.first)) out pending g.ds d low g.blocked;
      are = ap (λ (t : List ℤ). t ++ value ∷ []) g.are ∙ ap (λ (z : ℤ). sums v g.first g.ds ++ z ∷ []) next ∙ sym (sums-push v g.first g.ds d);
      ends = next ∙ ap (wrapped v) (sym (after-push g.first g.ds d));
    }

pub going_flush : (v : Width) (start out out' text : List ℕ) (pending pending' zs : List ℤ) (latest : ℤ) → length pending ≡ 128 → pending' ≡ [] → out' ≡ out ++ text → AnyBlock text pending → Going v start out pending latest zs → Going v start out' pending' latest zs
going_flush v start out out' text pending pending' zs latest full none e block g = record {
  first = g.first;
  ds = g.ds;
  fits = g.fits;
  blocked = subst (λ (p : List ℤ). Blocked v (start ++ varint (zigzag g.first)) out' p g.ds) (sym none) (blocked_flush v (start ++ varint (zigzag g.first)) out out' text pending g.ds full e (block v g.blocked.fit) g.blocked);
  are = g.are;
  ends = g.ends;
}

ended : (v : Width) (start out : List ℕ) (zs ds : List ℤ) (first : ℤ) (text : List ℕ) → SFits v first → out ≡ (start ++ varint (zigzag first)) ++ text → WrittenBlocks v text ds → length text ≤ 11 * length ds + 262 → zs ≡ sums v first ds → Deltas v start out zs
ended v start out zs ds first text fits parts blocks size are =
    let n : length zs ≡ suc (length ds) = ap length are ∙ length-sums v first ds in
    record {
      first = first;
      ds = ds;
      text = text;
      fits = fits;
      none = λ e. absurd (omega (arith, n, ap length e));
      parts = parts ∙ append_assoc start (varint (zigzag first)) text;
      blocks = blocks;
      are = subst (λ (ys : List ℤ). IsSums v first ds ys) (sym are) (is_sums v first ds);
      size = omega (arith, size, n);
    }

deltas_last : (v : Width) (start out out' text : List ℕ) (pending zs : List ℤ) (latest : ℤ) → out' ≡ out ++ text → AnyBlock text pending → Going v start out pending latest zs → Deltas v start out' zs
deltas_last v start out out' text pending zs latest e block g =
    let w = blocked_last v (start ++ varint (zigzag g.first)) out out' text pending g.ds e (block v g.blocked.fit) g.blocked in
    ended v start out' zs g.ds g.first w.0 g.fits w.1 w.2 w.3 g.are

deltas_whole : (v : Width) (start out : List ℕ) (pending zs : List ℤ) (latest : ℤ) → pending ≡ [] → Going v start out pending latest zs → Deltas v start out zs
deltas_whole v start out pending zs latest none g =
    let w = blocked_whole v (start ++ varint (zigzag g.first)) out pending g.ds none g.blocked in
    ended v start out zs g.ds g.first w.0 g.fits w.1 w.2 w.3 g.are

zero_fits : (v : Width) → SFits v (pos 0)
zero_fits w8 = sfits_lit tt
zero_fits w16 = sfits_lit tt
zero_fits w32 = sfits_lit tt
zero_fits w64 = sfits_lit tt
zero_fits w128 = sfits_lit tt

deltas_none : (v : Width) (start out out' : List ℕ) (zs : List ℤ) → out ≡ start → zs ≡ [] → out' ≡ out ++ varint 0 → Deltas v start out' zs
deltas_none v start out out' zs same none e = record {
  first = pos 0;
  ds = [];
  text = [];
  fits = zero_fits v;
  none = λ z. refl;
  parts = e ∙ ap (λ (t : List ℕ). t ++ varint 0) same ∙ ap (λ (t : List ℕ). start ++ t) (sym (append-nil (varint 0)));
  blocks = no_more;
  are = subst (λ (ys : List ℤ). IsSums v (pos 0) [] ys) (sym none) refl;
  size = omega arith;
}

-- whether there is a latest number says which
pub ends_none : (v : Width) (start out out' : List ℕ) (pending zs : List ℤ) (latest : Option ℤ) → false ≡ is_some latest → out' ≡ out ++ varint 0 → Begun v start out pending latest zs → Deltas v start out' zs
ends_none v start out out' pending zs None e more b = deltas_none v start out out' zs b.0 b.2 more
ends_none v start out out' pending zs (Some latest) e more b = absurd (cc e)

pub ends_last : (v : Width) (start out out' text : List ℕ) (pending zs : List ℤ) (latest : Option ℤ) → true ≡ is_some latest → out' ≡ out ++ text → AnyBlock text pending → Begun v start out pending latest zs → Deltas v start out' zs
ends_last v start out out' text pending zs None e more block b = absurd (cc e)
ends_last v start out out' text pending zs (Some latest) e more block b = deltas_last v start out out' text pending zs latest more block b

pub ends_whole : (v : Width) (start out : List ℕ) (pending zs : List ℤ) (latest : Option ℤ) → true ≡ is_some latest → pending ≡ [] → Begun v start out pending latest zs → Deltas v start out zs
ends_whole v start out pending zs None e none b = absurd (cc e)
ends_whole v start out pending zs (Some latest) e none b = deltas_whole v start out pending zs latest none b

-- ---- all

pub appends_delta : (v : Width) (start out out' : List ℕ) (zs : List ℤ) (n : ℕ) → bits v ≤ 64 → n < 2 ^ 64 → n ≡ length zs → out ≡ start ++ (varint 128 ++ (varint 4 ++ varint n)) → Deltas v out out' zs → AppendsDelta v start out' zs
appends_delta v start out out' zs n narrow small count e d =
    let h : List ℕ = varint (zigzag d.first) in
    let whole : (varint 128 ++ (varint 4 ++ varint n)) ++ (h ++ d.text) ≡ varint 128 ++ (varint 4 ++ (varint n ++ (h ++ d.text))) = append_assoc (varint 128) (varint 4 ++ varint n) (h ++ d.text) ∙ ap (λ (t : List ℕ). varint 128 ++ t) (append_assoc (varint 4) (varint n) (h ++ d.text)) in
    let a = is_number 128 (omega arith) in
    let b = is_number 4 (omega arith) in
    let k = is_number n small in
    let f = is_number (zigzag d.first) (zigzag_fits v d.first narrow d.fits) in
    record {
      text = varint 128 ++ (varint 4 ++ (varint n ++ (h ++ d.text)));
      parts = d.parts ∙ ap (λ (t : List ℕ). t ++ (h ++ d.text)) e ∙ append_assoc start (varint 128 ++ (varint 4 ++ varint n)) (h ++ d.text) ∙ ap (λ (t : List ℕ). start ++ t) whole;
      is = record {
        first = d.first;
        deltas = d.ds;
        body = d.text;
        parts = ap (λ (k : ℕ). varint 128 ++ (varint 4 ++ (varint k ++ (h ++ d.text)))) count;
        few = omega (arith, small, count);
        fits = d.fits;
        none = d.none;
        blocks = d.blocks;
        are = d.are;
      };
      size = omega (arith, length-append (varint 128) (varint 4 ++ (varint n ++ (h ++ d.text))), length-append (varint 4) (varint n ++ (h ++ d.text)), length-append (varint n) (h ++ d.text), length-append h d.text, a.short, b.short, k.short, f.short, d.size);
    }
