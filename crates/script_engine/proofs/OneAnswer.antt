-- Where each step is a function, a script of one caller has one answer.
use Rattle.std.proofs.Common.{◌≡◌, ◌⊎◌, inl, inr, ℕ, zero, suc, List, [], ◌∷◌, ◌++◌, length, slice_index_or, All, Some, arith, refl, ap, sym, ◌∙◌, subst}
use Rattle.std.specs.List.{flat_map}
use Rattle.pass_book.specs.declared.entries.Entry.{Entry}
use Rattle.pass_book.specs.Histories.{Leads, IsOfCallers}
use Rattle.pass_book.proofs.Sublists.{entries_of-alone, of_callers-rest}
use Rattle.script_text.specs.declared.scripts.Call.{Call}
use Rattle.script_text.specs.declared.replies.Reply.{Reply}
use Rattle.script_text.specs.Scripts.{PlainScript}
use Rattle.script_engine.specs.Answers.{Stands, AnswersRound, AnswersRounds, AreJoined, Answers}
use Rattle.script_engine.specs.Says.{SaysPlainly}

-- the only list of a single caller's replies
joined_one : (callers : ℕ) (parts : List (List (List Reply))) (replies : List (List Reply)) → callers ≡ 1 → AreJoined callers parts replies → replies ≡ flat_map (λ round. slice_index_or round 0 []) parts ∷ []
joined_one callers parts [] one is = absurd (omega (arith, one, is.each))
joined_one callers parts (told ∷ []) one is =
    let here : Some told ≡ Some (flat_map (λ round. slice_index_or round 0 []) parts) = is.joined 0 (omega (arith, one)) in cc
joined_one callers parts (told ∷ more ∷ others) one is = absurd (omega (arith, one, is.each))

front_alone : {Asked Told : Type 0} (xs ys : List (Entry Asked Told)) → IsOfCallers 1 (xs ++ ys) → IsOfCallers 1 xs
front_alone [] ys all k d within = absurd (omega arith)
front_alone (x ∷ xs) ys all zero d within = all 0 d (omega arith)
front_alone (x ∷ xs) ys all (suc k) d within = front_alone xs ys (λ i e below. all (suc i) e (omega arith)) k d (omega arith)

module _ {Asked Told State : Type 0} (opens : State → Type 0) (step : State → Asked → Told → State → Type 0) (Shows : Call → Reply → Asked → Told → Type 0) (HasNoEntry : Call → Reply → Type 0)
    -- what stays as the object opened with it
    (Fits : State → Type 0)
    (fits : (old new : State) (asked : Asked) (told : Told) → Fits old → step old asked told new → Fits new)
    (same : (old new other : State) (asked : Asked) (told says : Told) → step old asked told new → step old asked says other → (told ≡ says) × (new ≡ other))
    (shown : (call : Call) (reply says : Reply) (asked wants : Asked) (told tells : Told) → Shows call reply asked told → Shows call says wants tells → (asked ≡ wants) × (told ≡ tells → reply ≡ says))
    (alike : (call : Call) (reply says : Reply) → HasNoEntry call reply → HasNoEntry call says → reply ≡ says)
    (apart : (old new : State) (call : Call) (reply says : Reply) (asked : Asked) (told : Told) → Fits old → HasNoEntry call reply → Shows call says asked told → step old asked told new → ⊥) where
  abbrev Says : ℕ → Call → Reply → List (Entry Asked Told) → List (Entry Asked Told) → Type 0
  Says = SaysPlainly Shows HasNoEntry

  -- A single caller's calls with their replies: each has the next of these entries, unless its reply is one without.
  abbrev AreEntered : List Call → List Reply → List (Entry Asked Told) → Type 0
  AreEntered [] [] entries = entries ≡ []
  AreEntered (call ∷ calls) (reply ∷ replies) entries =
      (HasNoEntry call reply × AreEntered calls replies entries)
      ⊎ ((asked : Asked) × (told : Told) × (rest : List (Entry Asked Told)) × Shows call reply asked told
      × AreEntered calls replies rest × (entries ≡ record { caller = 0; call = asked; reply = told } ∷ rest))
  AreEntered calls replies entries = ⊥

  entered_next : (call : Call) (reply : Reply) (before stretch rest part : List (Entry Asked Told)) (calls : List Call) (replies : List Reply) → part ≡ stretch ++ rest → IsOfCallers 1 stretch
      → Says 0 call reply before stretch → AreEntered calls replies rest → AreEntered (call ∷ calls) (reply ∷ replies) part
  entered_next call reply before stretch rest part calls replies is alone (inl none) then =
      let empty : stretch ≡ [] = sym (entries_of-alone stretch alone) ∙ none.1 in
      let same : part ≡ rest = is ∙ ap (λ (l : List (Entry Asked Told)). l ++ rest) empty in
      inl (none.0, subst (AreEntered calls replies) (sym same) then)
  entered_next call reply before stretch rest part calls replies is alone (inr made) then =
      let one = sym (entries_of-alone stretch alone) ∙ made.3 in
      inr (made.0, made.1, rest, made.2, then, is ∙ ap (λ (l : List (Entry Asked Told)). l ++ rest) one)

  entered : (before part : List (Entry Asked Told)) (calls : List Call) (replies : List Reply) → IsOfCallers 1 part → Stands Says 0 before calls replies part → AreEntered calls replies part
  entered before part [] [] alone is = sym (entries_of-alone part alone) ∙ is
  entered before part [] (reply ∷ replies) alone is = absurd is
  entered before part (call ∷ calls) [] alone is = absurd is
  entered before part (call ∷ calls) (reply ∷ replies) alone is =
      let all = subst (IsOfCallers 1) is.2 alone in
      let then = entered (before ++ is.0) is.1 calls replies (of_callers-rest 1 is.0 is.1 all) is.4 in
      entered_next call reply before is.0 is.1 part calls replies is.2 (front_alone is.0 is.1 all) is.3 then

  leads_fit : (from to : State) (h : List (Entry Asked Told)) → Fits from → Leads opens step from h to → Fits to
  leads_fit from to [] f at = subst Fits at f
  leads_fit from to (e ∷ h) f at = leads_fit at.0 to h (fits from at.0 e.call e.reply f at.1) at.2

  leads_part : (from to : State) (h k : List (Entry Asked Told)) → Leads opens step from (h ++ k) to → (mid : State) × Leads opens step from h mid × Leads opens step mid k to
  leads_part from to [] k at = (from, refl, at)
  leads_part from to (e ∷ h) k at = let p = leads_part at.0 to h k at.2 in (p.0, (at.0, at.1, p.1), p.2)

  -- the calls of a round get the same replies, and lead to the same state
  once : (from to end : State) (calls : List Call) (told says : List Reply) (h k : List (Entry Asked Told)) → Fits from
      → AreEntered calls told h → Leads opens step from h to → AreEntered calls says k → Leads opens step from k end → (told ≡ says) × (to ≡ end)
  once from to end [] [] [] h k f first at second there =
      let a : from ≡ to = subst (λ (l : List (Entry Asked Told)). Leads opens step from l to) first at in
      let b : from ≡ end = subst (λ (l : List (Entry Asked Told)). Leads opens step from l end) second there in
      (refl, sym a ∙ b)
  once from to end [] (reply ∷ told) says h k f first at second there = absurd first
  once from to end [] [] (reply ∷ says) h k f first at second there = absurd second
  once from to end (call ∷ calls) [] says h k f first at second there = absurd first
  once from to end (call ∷ calls) (reply ∷ told) [] h k f first at second there = absurd second
  once from to end (call ∷ calls) (reply ∷ told) (says ∷ others) h k f (inl none) at (inl neither) there =
      let rest = once from to end calls told others h k f none.1 at neither.1 there in
      (ap (λ (r : Reply). r ∷ told) (alike call reply says none.0 neither.0) ∙ ap (λ (l : List Reply). says ∷ l) rest.0, rest.1)
  once from to end (call ∷ calls) (reply ∷ told) (says ∷ others) h k f (inl none) at (inr made) there =
      let goes = subst (λ (l : List (Entry Asked Told)). Leads opens step from l end) made.5 there in
      absurd (apart from goes.0 call reply says made.0 made.1 f none.0 made.3 goes.1)
  once from to end (call ∷ calls) (reply ∷ told) (says ∷ others) h k f (inr made) at (inl none) there =
      let goes = subst (λ (l : List (Entry Asked Told)). Leads opens step from l to) made.5 at in
      absurd (apart from goes.0 call says reply made.0 made.1 f none.0 made.3 goes.1)
  once from to end (call ∷ calls) (reply ∷ told) (says ∷ others) h k f (inr made) at (inr again) there =
      let goes = subst (λ (l : List (Entry Asked Told)). Leads opens step from l to) made.5 at in
      let went = subst (λ (l : List (Entry Asked Told)). Leads opens step from l end) again.5 there in
      let like = shown call reply says made.0 again.0 made.1 again.1 made.3 again.3 in
      let both = same from goes.0 went.0 again.0 made.1 again.1 (subst (λ (a : Asked). step from a made.1 goes.0) like.0 goes.1) went.1 in
      let next = subst (λ (s : State). Leads opens step s again.2 end) (sym both.1) went.2 in
      let rest = once goes.0 to end calls told others made.2 again.2 (fits from goes.0 made.0 made.1 f goes.1) made.4 goes.2 again.4 next in
      (ap (λ (r : Reply). r ∷ told) (like.1 both.0) ∙ ap (λ (l : List Reply). says ∷ l) rest.0, rest.1)

  -- the replies of one round of a single caller
  round_told : (before : List (Entry Asked Told)) (calls : List Call) (replies : List (List Reply)) (now : List (Entry Asked Told)) → IsOfCallers 1 now → AnswersRound Says before (calls ∷ []) replies now
      → (told : List Reply) × (replies ≡ told ∷ []) × AreEntered calls told now
  round_told before calls [] now alone is = absurd (omega (arith, is.each))
  round_told before calls (told ∷ []) now alone is = (told, refl, entered before now calls told alone (is.stands 0 calls told refl refl))
  round_told before calls (told ∷ more ∷ others) now alone is = absurd (omega (arith, is.each))

  rounds_once : (before behind : List (Entry Asked Told)) (from to end : State) (rounds : List (List (List Call))) (parts others : List (List (List Reply))) (h k : List (Entry Asked Told)) → Fits from → All (λ round. length round ≡ 1) rounds → IsOfCallers 1 h → IsOfCallers 1 k
      → AnswersRounds Says before rounds parts h → Leads opens step from h to → AnswersRounds Says behind rounds others k → Leads opens step from k end → (parts ≡ others) × (to ≡ end)
  rounds_once before behind from to end [] [] [] h k f one mine yours first at second there =
      let a : from ≡ to = subst (λ (l : List (Entry Asked Told)). Leads opens step from l to) first at in
      let b : from ≡ end = subst (λ (l : List (Entry Asked Told)). Leads opens step from l end) second there in
      (refl, sym a ∙ b)
  rounds_once before behind from to end [] (part ∷ parts) others h k f one mine yours first at second there = absurd first
  rounds_once before behind from to end [] [] (other ∷ others) h k f one mine yours first at second there = absurd second
  rounds_once before behind from to end (round ∷ rounds) [] others h k f one mine yours first at second there = absurd first
  rounds_once before behind from to end (round ∷ rounds) (part ∷ parts) [] h k f one mine yours first at second there = absurd second
  rounds_once before behind from to end ([] ∷ rounds) (part ∷ parts) (other ∷ others) h k f one mine yours first at second there = absurd (omega (arith, one 0 [] (omega arith)))
  rounds_once before behind from to end ((calls ∷ more ∷ rest) ∷ rounds) (part ∷ parts) (other ∷ others) h k f one mine yours first at second there = absurd (omega (arith, one 0 [] (omega arith)))
  rounds_once before behind from to end ((calls ∷ []) ∷ rounds) (part ∷ parts) (other ∷ others) h k f one mine yours first at second there =
      let a = leads_part from to first.0 first.1 (subst (λ (l : List (Entry Asked Told)). Leads opens step from l to) first.4 at) in
      let b = leads_part from end second.0 second.1 (subst (λ (l : List (Entry Asked Told)). Leads opens step from l end) second.4 there) in
      let ours = subst (IsOfCallers 1) first.4 mine in
      let theirs = subst (IsOfCallers 1) second.4 yours in
      let x = round_told before calls part first.0 (front_alone first.0 first.1 ours) first.2 in
      let y = round_told behind calls other second.0 (front_alone second.0 second.1 theirs) second.2 in
      let now = once from a.0 b.0 calls x.0 y.0 first.0 second.0 f x.2 a.1 y.2 b.1 in
      let next = subst (λ (s : State). Leads opens step s second.1 end) (sym now.1) b.2 in
      let later = rounds_once (before ++ first.0) (behind ++ second.0) a.0 to end rounds parts others first.1 second.1 (leads_fit from a.0 first.0 f a.1) (λ i d within. one (suc i) d (omega arith))
      (of_callers-rest 1 first.0 first.1 ours) (of_callers-rest 1 second.0 second.1 theirs) first.3 a.2 second.3 next in
      let here : part ≡ other = x.1 ∙ (ap (λ (l : List Reply). l ∷ []) now.0 ∙ sym y.1) in
      (ap (λ (p : List (List Reply)). p ∷ parts) here ∙ ap (λ (l : List (List (List Reply))). other ∷ l) later.0, later.1)

  pub answers_once : (start : State) (script : PlainScript) (replies others : List (List Reply)) (IsLeft IsRest : State → Type 0) → Fits start → script.callers ≡ 1 → All (λ round. length round ≡ 1) script.rounds
      → (a : Answers opens step Says start script replies IsLeft) → (b : Answers opens step Says start script others IsRest) → (replies ≡ others) × (a.state ≡ b.state)
  answers_once start script replies others IsLeft IsRest f alone one a b =
      let all = rounds_once [] [] start a.state b.state script.rounds a.rounds b.rounds a.history b.history f one (subst (λ (n : ℕ). IsOfCallers n a.history) alone a.callers) (subst (λ (n : ℕ). IsOfCallers n b.history) alone b.callers) a.answers a.leaves.1 b.answers b.leaves.1 in
      let x = joined_one script.callers a.rounds replies alone a.joined in
      let y = joined_one script.callers b.rounds others alone b.joined in
      let told : flat_map (λ round. slice_index_or round 0 []) a.rounds ≡ flat_map (λ round. slice_index_or round 0 []) b.rounds = ap (flat_map (λ round. slice_index_or round 0 [])) all.0 in
      (x ∙ (ap (λ (l : List Reply). l ∷ []) told ∙ sym y), all.1)
