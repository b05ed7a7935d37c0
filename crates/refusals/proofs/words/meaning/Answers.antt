-- `refusals::words::meaning` meets its contract: the words of each number are those of the table.
use mathlib.Core.Path.{sym, ap}
use native.Mathlib.Omega.{arith}
use Rattle.decimals.specs.Text.{bytes_of}
use Rattle.refusals.proofs.Meaning.{words_other}
use Rattle.refusals.specs.Refusals.{refusal_texts, refusal_words}
use Rattle.refusals.proofs.words.meaning.Goals as goal

pub returns-in-0 : goal.returns-in-0
unfolding bytes_of refusal_texts refusal_words
returns-in-0 c = sym (ap refusal_words c.in-0.is)

pub returns-in-1 : goal.returns-in-1
unfolding bytes_of refusal_texts refusal_words
returns-in-1 c = sym (ap refusal_words c.in-1.is)

pub returns-in-2 : goal.returns-in-2
unfolding bytes_of refusal_texts refusal_words
returns-in-2 c = sym (ap refusal_words c.in-2.is)

pub returns-in-3 : goal.returns-in-3
unfolding bytes_of refusal_texts refusal_words
returns-in-3 c = sym (ap refusal_words c.in-3.is)

pub returns-in-4 : goal.returns-in-4
unfolding bytes_of refusal_texts refusal_words
returns-in-4 c = sym (ap refusal_words c.in-4.is)

pub returns-in-5 : goal.returns-in-5
unfolding bytes_of refusal_texts refusal_words
returns-in-5 c = sym (ap refusal_words c.in-5.is)

pub returns-in-6 : goal.returns-in-6
unfolding bytes_of refusal_texts refusal_words
returns-in-6 c = sym (ap refusal_words c.in-6.is)

pub returns-in-7 : goal.returns-in-7
unfolding bytes_of refusal_texts refusal_words
returns-in-7 c = sym (ap refusal_words c.in-7.is)

pub returns-in-8 : goal.returns-in-8
unfolding bytes_of refusal_texts refusal_words
returns-in-8 c = sym (ap refusal_words c.in-8.is)

pub returns-in-9 : goal.returns-in-9
unfolding bytes_of refusal_texts refusal_words
returns-in-9 c = sym (ap refusal_words c.in-9.is)

pub returns-in-10 : goal.returns-in-10
unfolding bytes_of refusal_texts refusal_words
returns-in-10 c = sym (ap refusal_words c.in-10.is)

pub returns-in-11 : goal.returns-in-11
unfolding bytes_of refusal_texts refusal_words
returns-in-11 c = sym (ap refusal_words c.in-11.is)

pub returns-in-12 : goal.returns-in-12
unfolding bytes_of refusal_texts refusal_words
returns-in-12 c = sym (ap refusal_words c.in-12.is)

pub returns-in-13 : goal.returns-in-13
unfolding bytes_of refusal_texts refusal_words
returns-in-13 c = sym (ap refusal_words c.in-13.is)

pub returns-in-14 : goal.returns-in-14
unfolding bytes_of refusal_texts refusal_words
returns-in-14 c = sym (ap refusal_words c.in-14.is)

pub returns-in-15 : goal.returns-in-15
unfolding bytes_of refusal_texts refusal_words
returns-in-15 c = sym (ap refusal_words c.in-15.is)

pub returns-in-16 : goal.returns-in-16
unfolding bytes_of refusal_texts refusal_words
returns-in-16 c = sym (ap refusal_words c.in-16.is)

pub returns-in-17 : goal.returns-in-17
unfolding bytes_of refusal_texts refusal_words
returns-in-17 c = sym (ap refusal_words c.in-17.is)

pub returns-in-18 : goal.returns-in-18
unfolding bytes_of refusal_texts refusal_words
returns-in-18 c = sym (ap refusal_words c.in-18.is)

pub returns-in-19 : goal.returns-in-19
unfolding bytes_of refusal_texts refusal_words
returns-in-19 c = sym (ap refusal_words c.in-19.is)

pub returns-in-20 : goal.returns-in-20
unfolding bytes_of refusal_texts refusal_words
returns-in-20 c = sym (ap refusal_words c.in-20.is)

pub returns-in-21 : goal.returns-in-21
unfolding bytes_of refusal_texts refusal_words
returns-in-21 c = sym (ap refusal_words c.in-21.is)

pub returns-in-22 : goal.returns-in-22
unfolding bytes_of refusal_texts refusal_words
returns-in-22 c = sym (ap refusal_words c.in-22.is)

pub returns-in-23 : goal.returns-in-23
unfolding bytes_of refusal_texts refusal_words
returns-in-23 c = sym (ap refusal_words c.in-23.is)

pub returns-in-24 : goal.returns-in-24
unfolding bytes_of refusal_texts refusal_words
returns-in-24 c = sym (ap refusal_words c.in-24.is)

pub returns-in-25 : goal.returns-in-25
unfolding bytes_of refusal_texts refusal_words
returns-in-25 c = sym (ap refusal_words c.in-25.is)

pub returns-in-26 : goal.returns-in-26
unfolding bytes_of refusal_texts refusal_words
returns-in-26 c = sym (ap refusal_words c.in-26.is)

pub returns-in_default : goal.returns-in_default
unfolding bytes_of
returns-in_default c = sym (words_other c.args.number (omega arith))
