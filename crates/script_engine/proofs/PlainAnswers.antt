-- What each plain object replies to a script of one caller is an answer of it.
use Rattle.std.proofs.Common.{◌≡◌, ℕ, List, [], ◌∷◌, length, All, IsPermutation, refl, ap, ◌∙◌, subst}
use Rattle.std.specs.List.Sorted.{IsNonDecreasing}
use Rattle.seq_objects.specs.BagSteps.{BagStep}
use Rattle.seq_objects.specs.DequeSteps.{DequeState}
use Rattle.seq_objects.specs.ListSteps.{ListState, opening_list}
use Rattle.seq_objects.specs.Meanings.{ListOpens, ListSteps, BagOpens, DequeOpens, DequeSteps}
use Rattle.script_text.specs.declared.scripts.Call.{Call}
use Rattle.script_text.specs.declared.scripts.ObjectLine.TheVariants.{List as AList, Bag as ABag, Deque as ADeque}
use Rattle.script_text.specs.declared.replies.Reply.{Reply}
use Rattle.script_text.specs.declared.replies.Replies.{Replies}
use Rattle.script_text.specs.Replies.{reply_lists, left_items}
use Rattle.script_text.specs.Scripts.{PlainScript, IsValid}
use Rattle.script_engine.specs.declared.objects.ListOfWidth.{ListOfWidth}
use Rattle.script_engine.specs.Answers.{PlainAnswersOf}
use Rattle.script_engine.specs.Replied.{Does, ListDoes, BagDoes, DequeDoes, Replied, HasAnswered, first_calls}
use Rattle.script_engine.specs.Shown.{ShowsList, ShowsBag, ShowsDeque, IsTooLong, Never}
use Rattle.script_engine.proofs.SingleCaller.{answers_alone}

-- each round of a valid script has as many lists as there are callers
pub one_each : (script : PlainScript) → IsValid script → script.callers ≡ 1 → All (λ round. length round ≡ 1) script.rounds
one_each script valid alone k d within = (valid.rounds k d within).each ∙ alone

-- the width stays
list_replied : (width : ℕ) (from : ListOfWidth) (calls : List Call) (told : List Reply) (to : ListOfWidth) → from.list.width ≡ width
    → Replied (λ (old : ListOfWidth) (call : Call) (reply : Reply) (new : ListOfWidth). ListDoes old.list call reply new.list) from calls told to → Replied (Does ListSteps ShowsList (IsTooLong width)) from.list calls told to.list
list_replied width from [] [] to is made = ap (λ (l : ListOfWidth). l.list) made
list_replied width from [] (reply ∷ told) to is made = absurd made
list_replied width from (call ∷ calls) [] to is made = absurd made
list_replied width from (call ∷ calls) (reply ∷ told) to is made =
    let next : ListOfWidth = made.0 in
    let here = subst (λ (w : ℕ). Does ListSteps ShowsList (IsTooLong w) from.list call reply next.list) is made.1.0 in
    (next.list, here, list_replied width next calls told to (made.1.1 ∙ is) made.2)

pub list_answer : (width : ℕ) (start : ListOfWidth) (script : PlainScript) (replies : Replies) → IsValid script → script.callers ≡ 1 → start.list.width ≡ width → start.list.items ≡ opening_list width
    → (a : HasAnswered (λ (old : ListOfWidth) (call : Call) (reply : Reply) (new : ListOfWidth). ListDoes old.list call reply new.list) (λ (asked : ListOfWidth) (items : List ℕ). items ≡ asked.list.items) start (first_calls script.rounds) replies)
    → (locales objects : ℕ) → PlainAnswersOf (AList locales objects width) script (reply_lists replies) replies.left
list_answer width start script replies valid alone wide zeros a locales objects =
    let from : ListState = record { width = width; items = opening_list width } in
    let opened : start.list ≡ from = ap (λ (w : ℕ). record { width = w; items = start.list.items }) wide ∙ ap (λ (items : List ℕ). record { width = width; items = items }) zeros in
    let made = list_replied width start (first_calls script.rounds) a.told a.to wide a.replied in
    let there = subst (λ (l : ListState). Replied (Does ListSteps ShowsList (IsTooLong width)) l (first_calls script.rounds) a.told a.to.list) opened made in
    answers_alone ListOpens ListSteps ShowsList (IsTooLong width) (λ (state : ListState). left_items replies.left ≡ state.items) from a.to.list script a.told (reply_lists replies) refl alone (one_each script valid alone) there a.alone a.held

pub bag_answer : (start : List ℕ) (script : PlainScript) (replies : Replies) → IsValid script → script.callers ≡ 1 → start ≡ []
    → HasAnswered BagDoes (λ (bag : List ℕ) (items : List ℕ). IsPermutation bag items × IsNonDecreasing items) start (first_calls script.rounds) replies
    → (locales segments room : ℕ) → PlainAnswersOf (ABag locales segments room) script (reply_lists replies) replies.left
bag_answer start script replies valid alone opened a locales segments room =
    let there = subst (λ (l : List ℕ). Replied BagDoes l (first_calls script.rounds) a.told a.to) opened a.replied in
    answers_alone BagOpens BagStep ShowsBag Never (λ (state : List ℕ). IsPermutation state (left_items replies.left) × IsNonDecreasing (left_items replies.left)) [] a.to script a.told (reply_lists replies) refl alone (one_each script valid alone) there a.alone a.held

pub deque_answer : (capacity : ℕ) (start : DequeState) (script : PlainScript) (replies : Replies) → IsValid script → script.callers ≡ 1 → start.capacity ≡ capacity → start.items ≡ []
    → HasAnswered DequeDoes (λ (deque : DequeState) (items : List ℕ). items ≡ deque.items) start (first_calls script.rounds) replies
    → (locales : ℕ) → PlainAnswersOf (ADeque locales capacity) script (reply_lists replies) replies.left
deque_answer capacity start script replies valid alone holds empty a locales =
    let from : DequeState = record { capacity = capacity; items = [] } in
    let opened : start ≡ from = ap (λ (c : ℕ). record { capacity = c; items = start.items }) holds ∙ ap (λ (items : List ℕ). record { capacity = capacity; items = items }) empty in
    let there = subst (λ (l : DequeState). Replied DequeDoes l (first_calls script.rounds) a.told a.to) opened a.replied in
    answers_alone DequeOpens DequeSteps ShowsDeque Never (λ (state : DequeState). left_items replies.left ≡ state.items) from a.to script a.told (reply_lists replies) refl alone (one_each script valid alone) there a.alone a.held
