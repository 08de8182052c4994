-- A list and a deque answer a script of one caller in one way.
use Rattle.std.proofs.Common.{◌≡◌, ℕ, List, [], refl, ap, sym, ◌∙◌, subst}
use Rattle.seq_objects.specs.declared.lists.ListCall.{ListCall}
use Rattle.seq_objects.specs.declared.lists.ListReply.{ListReply}
use Rattle.seq_objects.specs.declared.deques.DequeCall.{DequeCall}
use Rattle.seq_objects.specs.declared.deques.DequeReply.{DequeReply}
use Rattle.seq_objects.specs.DequeSteps.{DequeState}
use Rattle.seq_objects.specs.ListSteps.{ListState, IsDefined, opening_list}
use Rattle.seq_objects.specs.Meanings.{ListOpens, ListSteps, DequeOpens, DequeSteps}
use Rattle.script_text.specs.declared.scripts.Call.{Call}
use Rattle.script_text.specs.declared.scripts.Call.TheVariants.{List as OfList, Bag as OfBag, Deque as OfDeque}
use Rattle.script_text.specs.declared.scripts.ObjectLine.{ObjectLine}
use Rattle.script_text.specs.declared.scripts.ObjectLine.TheVariants.{List as AList, Bag as ABag, Deque as ADeque}
use Rattle.script_text.specs.declared.replies.Reply.{Reply}
use Rattle.script_text.specs.declared.replies.Reply.TheVariants.{TooLong}
use Rattle.script_text.specs.declared.replies.Left.{Left}
use Rattle.script_text.specs.Replies.{left_items}
use Rattle.script_text.specs.Scripts.{PlainScript, IsValid}
use Rattle.script_engine.specs.Answers.{PlainAnswersOf, AnswersOnce, IsOrdered}
use Rattle.script_engine.specs.Shown.{list_shown, deque_shown, ShowsList, ShowsDeque, IsTooLong, Never}
use Rattle.script_engine.proofs.OneAnswer.{answers_once}
use Rattle.script_engine.proofs.PlainAnswers.{one_each}

list_same : (old new other : ListState) (asked : ListCall) (told says : ListReply) → ListSteps old asked told new → ListSteps old asked says other → (told ≡ says) × (new ≡ other)
list_same old new other asked told says a b = (a.1 ∙ sym b.1, a.2 ∙ sym b.2)

list_told : (call : Call) (reply says : Reply) (asked wants : ListCall) (told tells : ListReply) → ShowsList call reply asked told → ShowsList call says wants tells → (asked ≡ wants) × (told ≡ tells → reply ≡ says)
list_told (OfList call) reply says asked wants told tells a b = (a.0 ∙ sym b.0, λ same. a.1 ∙ (ap list_shown same ∙ sym b.1))
list_told (OfBag call once) reply says asked wants told tells a b = absurd a
list_told (OfDeque call once) reply says asked wants told tells a b = absurd a

-- only one reply has no place in the history
too_long : (width : ℕ) (call : Call) (reply : Reply) → IsTooLong width call reply → reply ≡ TooLong
too_long width (OfList call) reply is = is.0
too_long width (OfBag call once) reply is = absurd is
too_long width (OfDeque call once) reply is = absurd is

list_apart : (width : ℕ) (old new : ListState) (call : Call) (reply says : Reply) (asked : ListCall) (told : ListReply) → old.width ≡ width → IsTooLong width call reply → ShowsList call says asked told → ListSteps old asked told new → ⊥
list_apart width old new (OfList call) reply says asked told fits none shows goes =
    let defined : IsDefined width call = subst (λ (c : ListCall). IsDefined width c) shows.0 (subst (λ (w : ℕ). IsDefined w asked) fits goes.0) in
    none.1 defined
list_apart width old new (OfBag call once) reply says asked told fits none shows goes = shows
list_apart width old new (OfDeque call once) reply says asked told fits none shows goes = shows

deque_same : (old new other : DequeState) (asked : DequeCall) (told says : DequeReply) → DequeSteps old asked told new → DequeSteps old asked says other → (told ≡ says) × (new ≡ other)
deque_same old new other asked told says a b = (a.0 ∙ sym b.0, a.1 ∙ sym b.1)

deque_told : (call : Call) (reply says : Reply) (asked wants : DequeCall) (told tells : DequeReply) → ShowsDeque call reply asked told → ShowsDeque call says wants tells → (asked ≡ wants) × (told ≡ tells → reply ≡ says)
deque_told (OfDeque call once) reply says asked wants told tells a b = (a.0 ∙ sym b.0, λ same. a.1 ∙ (ap deque_shown same ∙ sym b.1))
deque_told (OfList call) reply says asked wants told tells a b = absurd a
deque_told (OfBag call once) reply says asked wants told tells a b = absurd a

ordered : (object : ObjectLine) (script : PlainScript) (replies others : List (List Reply)) (left rest : Left) → IsValid script → script.callers ≡ 1 → IsOrdered object
    → PlainAnswersOf object script replies left → PlainAnswersOf object script others rest → (replies ≡ others) × (left_items left ≡ left_items rest)
ordered (AList locales objects width) script replies others left rest valid alone is a b =
    let start : ListState = record { width = width; items = opening_list width } in
    let both = answers_once ListOpens ListSteps ShowsList (IsTooLong width) (λ (s : ListState). s.width ≡ width) (λ old new asked told f goes. ap (λ (s : ListState). s.width) goes.2 ∙ f)
    list_same list_told (λ call reply says n m. too_long width call reply n ∙ sym (too_long width call says m)) (list_apart width) start script replies others _ _ refl alone (one_each script valid alone) a b in
    (both.0, a.left ∙ (ap (λ (s : ListState). s.items) both.1 ∙ sym b.left))
ordered (ABag locales segments room) script replies others left rest valid alone is a b = absurd is
ordered (ADeque locales capacity) script replies others left rest valid alone is a b =
    let start : DequeState = record { capacity = capacity; items = [] } in
    let both = answers_once DequeOpens DequeSteps ShowsDeque Never (λ (s : DequeState). Unit {0}) (λ old new asked told f goes. tt)
    deque_same deque_told (λ call reply says n m. absurd n) (λ old new call reply says asked told f none shows goes. none) start script replies others _ _ tt alone (one_each script valid alone) a b in
    (both.0, a.left ∙ (ap (λ (s : DequeState). s.items) both.1 ∙ sym b.left))

pub once : AnswersOnce
once script replies others left rest valid alone is a b = ordered script.object script replies others left rest valid alone is a b
