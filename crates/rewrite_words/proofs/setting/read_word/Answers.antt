use Rattle.std.proofs.Common.{sym, ◌∙◌, ap}
use Rattle.rewrite_words.specs.Words.{numbered_of, setting_of}
use Rattle.rewrite_words.proofs.Texts.{no_name}
use Rattle.rewrite_words.proofs.setting.read_word.Goals as goal

pub returns-in-text : goal.returns-in-text
unfolding setting_of
returns-in-text c = sym (ap setting_of c.in-text.is)

pub returns-in-text-2 : goal.returns-in-text-2
unfolding setting_of
returns-in-text-2 c = sym (ap setting_of c.in-text-2.is)

pub returns-in-text-3 : goal.returns-in-text-3
unfolding setting_of
returns-in-text-3 c = sym (ap setting_of c.in-text-3.is)

pub returns-in-text-4 : goal.returns-in-text-4
unfolding setting_of
returns-in-text-4 c = sym (ap setting_of c.in-text-4.is)

pub returns-in-text-5 : goal.returns-in-text-5
unfolding setting_of
returns-in-text-5 c = sym (ap setting_of c.in-text-5.is)

pub returns-in_default : goal.returns-in_default
returns-in_default c =
    let other = no_name c.args.word.now c.in_default.not-text c.in_default.not-text-2 c.in_default.not-text-3 c.in_default.not-text-4 c.in_default.not-text-5 in
    c.read_numbered.ensures ∙ ap numbered_of c.as_bytes.ensures.value ∙ sym other
