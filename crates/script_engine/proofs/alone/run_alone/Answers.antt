use Rattle.std.proofs.Common.{sym, subst}
use Rattle.std.proofs.lemmas.Result.{IfOk-weaker}
use Rattle.script_text.specs.declared.scripts.ObjectLine.{ObjectLine}
use Rattle.script_text.specs.Replies.{reply_lists}
use Rattle.script_text.specs.Scripts.{plain_script}
use Rattle.script_engine.specs.Answers.{PlainAnswersOf}
use Rattle.script_engine.proofs.PlainAnswers.{list_answer, bag_answer, deque_answer}
use Rattle.script_engine.proofs.alone.run_alone.Goals as goal

pub returns-in_ok-list-in-List : goal.returns-in_ok-list-in-List
returns-in_ok-list-in-List c =
    let script = plain_script c.args.script.now in
    let made = rw (c.as_slice-rounds.ensures.value) at c.run_on.ensures in
    record {
      answer = IfOk-weaker c.run_on.result _ _
          (λ replies a. subst (λ (o : ObjectLine). PlainAnswersOf o script (reply_lists replies) replies.left) (sym c.in-List.is)
          (list_answer c.in-List.width _ script replies c.requires.valid c.requires.alone c.in_ok-list-in-List.ensures.width (c.in_ok-list-in-List.ensures.items) a c.in-List.locales c.in-List.objects)) made;
    }

pub returns-in-Bag : goal.returns-in-Bag
returns-in-Bag c =
    let script = plain_script c.args.script.now in
    let made = rw (c.as_slice-rounds.ensures.value) at c.run_on-in-Bag.ensures in
    record {
      answer = IfOk-weaker c.run_on-in-Bag.result _ _
          (λ replies a. subst (λ (o : ObjectLine). PlainAnswersOf o script (reply_lists replies) replies.left) (sym c.in-Bag.is)
          (bag_answer c.open-in-Bag.result script replies c.requires.valid c.requires.alone c.open-in-Bag.ensures a c.in-Bag.locales c.in-Bag.segments c.in-Bag.room)) made;
    }

pub returns-in-Deque : goal.returns-in-Deque
returns-in-Deque c =
    let script = plain_script c.args.script.now in
    let made = rw (c.as_slice-rounds.ensures.value) at c.run_on-in-Deque.ensures in
    record {
      answer = IfOk-weaker c.run_on-in-Deque.result _ _
          (λ replies a. subst (λ (o : ObjectLine). PlainAnswersOf o script (reply_lists replies) replies.left) (sym c.in-Deque.is)
          (deque_answer c.in-Deque.capacity c.open-in-Deque.result script replies c.requires.valid c.requires.alone c.open-in-Deque.ensures.capacity c.open-in-Deque.ensures.items a c.in-Deque.locales)) made;
    }
