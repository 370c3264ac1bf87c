use Rattle.std.proofs.Common.{◌≡◌, Some, None, ◌+◌, map, string_bytes, drop, sym, ◌∙◌, ap, arith}
use Rattle.rewrite_words.specs.Words.{setting_of}
use Rattle.rewrite_words.proofs.Steps.{options_from, begun, no_word, goes_on, twice, over, opened, closed}
use Rattle.rewrite_words.proofs.read.read_words.Goals as goal

pub loop-word-init : goal.loop-word-init
loop-word-init c = sym (begun (map string_bytes c.args.words.now))

pub returns-in_err-setting : goal.returns-in_err-setting
returns-in_err-setting c =
    let rest = map string_bytes (drop (c.loop-word.word-index + 1) c.args.words.now) in
    let next = opened string_bytes c.args.words.now c.loop-word.word-index c.word-item.result c.loop-word-test.true c.word-item.is in
    let none : setting_of (string_bytes c.word-item.result) ≡ None = sym (ap setting_of c.as_str.ensures.value) ∙ sym c.read_word.ensures ∙ c.in_err-setting.was in
    c.from_residual.ensures ∙ sym (c.loop-word.invariant ∙ ap (options_from c.loop-word.asked) next ∙ no_word c.loop-word.asked (string_bytes c.word-item.result) rest none)

pub returns-then-set : goal.returns-then-set
returns-then-set c =
    let rest = map string_bytes (drop (c.loop-word.word-index + 1) c.args.words.now) in
    let next = opened string_bytes c.args.words.now c.loop-word.word-index c.word-item.result c.loop-word-test.true c.word-item.is in
    let one : setting_of (string_bytes c.word-item.result) ≡ Some c.in_ok-setting.setting = sym (ap setting_of c.as_str.ensures.value) ∙ sym c.read_word.ensures ∙ c.in_ok-setting.was in
    sym (c.loop-word.invariant ∙ ap (options_from c.loop-word.asked) next
    ∙ twice c.loop-word.asked (string_bytes c.word-item.result) rest c.in_ok-setting.setting one (sym c.set.ensures.before ∙ c.if-set.true))

pub loop-word-preserved : goal.loop-word-preserved
loop-word-preserved c =
    let rest = map string_bytes (drop (c.loop-word.word-index + 1) c.args.words.now) in
    let next = opened string_bytes c.args.words.now c.loop-word.word-index c.word-item.result c.loop-word-test.true c.word-item.is in
    let one : setting_of (string_bytes c.word-item.result) ≡ Some c.in_ok-setting.setting = sym (ap setting_of c.as_str.ensures.value) ∙ sym c.read_word.ensures ∙ c.in_ok-setting.was in
    c.loop-word.invariant ∙ ap (options_from c.loop-word.asked) next
    ∙ goes_on c.loop-word.asked (string_bytes c.word-item.result) rest c.in_ok-setting.setting one (sym c.set.ensures.before ∙ c.if-set.false)
    ∙ ap (λ asked. options_from asked rest) (sym c.set.ensures.after)

pub returns : goal.returns
returns c =
    let none = closed string_bytes c.args.words.now c.loop-word.word-index (omega arith) in
    sym (c.loop-word.invariant ∙ ap (options_from c.loop-word.asked) none ∙ over c.loop-word.asked ∙ ap Some (sym c.finish.ensures))
