-- Calls of one caller, one after another.
use Rattle.std.proofs.Common.{◌≡◌, inr, ℕ, suc, ◌+◌, ◌<◌, List, [], ◌∷◌, ◌++◌, length, map, take, drop, drop-cons, slice_index_or, All, refl, ap, sym, ◌∙◌, subst, append_assoc}
use Rattle.std.proofs.lemmas.Grind.{flat_map-append}
use Rattle.std.proofs.lemmas.List.{append-nil, get_or-map, length-map, map-append, take-append-drop, take_more}
use Rattle.script_text.specs.declared.scripts.Call.{Call}
use Rattle.script_text.specs.declared.scripts.Round.{Round}
use Rattle.script_text.specs.declared.replies.Reply.{Reply}
use Rattle.script_text.specs.Scripts.{plain_round}
use Rattle.script_engine.specs.Replied.{Replied, StopsEarly, HasReplied, AreAsked, first_calls}

-- what is asked in one of the rounds
pub asked-at : (asks : Call → Type 0) (rounds : List Round) (k : ℕ) (d : Round) (calls : List Call) → AreAsked asks (map plain_round rounds) → k < length rounds
    → calls ≡ slice_index_or (plain_round (slice_index_or rounds k d)) 0 [] → All asks calls
asked-at asks rounds k d calls asked within is =
    let here = asked k (plain_round d) (subst (λ (n : ℕ). k < n) (sym (length-map rounds plain_round)) within) in
    let same = get_or-map plain_round rounds k d (plain_round d) within in
    let P : List (List Call) → Type 0 = λ round. All asks (slice_index_or round 0 []) in
    subst (All asks) (sym is) (subst P same here)

-- the next call of a list was refused
pub stops_at : {State : Type 0} (does : State → Call → Reply → State → Type 0) (refuses : State → Call → State → Type 0) (from mid to : State) (calls : List Call) (k : ℕ) (d : Call) (told : List Reply) → k < length calls
    → Replied does from (take k calls) told mid → refuses mid (slice_index_or calls k d) to → StopsEarly does refuses from calls to
stops_at does refuses from mid to calls k d told within first refused =
    let whole : calls ≡ take k calls ++ slice_index_or calls k d ∷ drop (suc k) calls = sym (take-append-drop k calls) ∙ ap (λ (l : List Call). take k calls ++ l) (drop-cons calls k d within) in
    inr (take k calls, drop (suc k) calls, slice_index_or calls k d, told, mid, whole, first, refused)

module _ {State : Type 0} (does : State → Call → Reply → State → Type 0) where
  -- more calls
  pub replied-append : (from mid to : State) (calls more : List Call) (told others : List Reply) → Replied does from calls told mid → Replied does mid more others to → Replied does from (calls ++ more) (told ++ others) to
  replied-append from mid to [] more [] others at goes = subst (λ s. Replied does s more others to) at goes
  replied-append from mid to (call ∷ calls) more (reply ∷ told) others at goes = (at.0, at.1, replied-append at.0 mid to calls more told others at.2 goes)
  replied-append from mid to [] more (reply ∷ told) others at goes = absurd at
  replied-append from mid to (call ∷ calls) more [] others at goes = absurd at

  -- the next call of a list
  pub replied_next : (from mid to : State) (calls : List Call) (k : ℕ) (d : Call) (told : List Reply) (reply : Reply) → k < length calls → Replied does from (take k calls) told mid → does mid (slice_index_or calls k d) reply to
      → Replied does from (take (k + 1) calls) (told ++ reply ∷ []) to
  replied_next from mid to calls k d told reply within first then =
      let one : Replied does mid (slice_index_or calls k d ∷ []) (reply ∷ []) to = (to, then, refl) in
      let more = replied-append from mid to (take k calls) (slice_index_or calls k d ∷ []) told (reply ∷ []) first one in
      subst (λ (l : List Call). Replied does from l (told ++ reply ∷ []) to) (sym (take_more calls k d within)) more

  -- no calls
  pub has-nothing : (from : State) (old : List Reply) → HasReplied does from [] from old old
  has-nothing from old = ([], refl, sym (append-nil old))

  -- one call more
  pub has-more : (from mid to : State) (calls more : List Call) (old now new : List Reply) → HasReplied does from calls mid old now → HasReplied does mid more to now new → HasReplied does from (calls ++ more) to old new
  has-more from mid to calls more old now new first then = (
    first.0 ++ then.0,
    replied-append from mid to calls more first.0 then.0 first.1 then.1,
    then.2 ∙ (ap (λ (l : List Reply). l ++ then.0) first.2 ∙ append_assoc old first.0 then.0),
  )

  -- a call
  pub has-one : (from to : State) (call : Call) (reply : Reply) (old : List Reply) → does from call reply to → HasReplied does from (call ∷ []) to old (old ++ reply ∷ [])
  has-one from to call reply old goes = (reply ∷ [], (to, goes, refl), refl)

  -- the next call of a list
  pub has-next : (from mid to : State) (calls : List Call) (k : ℕ) (d : Call) (reply : Reply) (old now new : List Reply) → k < length calls
      → HasReplied does from (take k calls) mid old now → does mid (slice_index_or calls k d) reply to → new ≡ now ++ reply ∷ [] → HasReplied does from (take (k + 1) calls) to old new
  has-next from mid to calls k d reply old now new within first goes is =
      let more = has-more from mid to (take k calls) (slice_index_or calls k d ∷ []) old now (now ++ reply ∷ []) first (has-one mid to (slice_index_or calls k d) reply now goes) in
      let P : List Call → Type 0 = λ l. HasReplied does from l to old new in
      subst P (sym (take_more calls k d within)) (subst (λ (l : List Reply). HasReplied does from (take k calls ++ slice_index_or calls k d ∷ []) to old l) (sym is) more)

  -- the next round of several
  pub has-round : (from mid to : State) (rounds : List Round) (k : ℕ) (d : Round) (calls : List Call) (old now new : List Reply) → k < length rounds
      → HasReplied does from (first_calls (map plain_round (take k rounds))) mid old now → calls ≡ slice_index_or (plain_round (slice_index_or rounds k d)) 0 [] → HasReplied does mid calls to now new
      → HasReplied does from (first_calls (map plain_round (take (k + 1) rounds))) to old new
  has-round from mid to rounds k d calls old now new within first is then =
      let first_of : List (List Call) → List Call = λ round. slice_index_or round 0 [] in
      let before = map plain_round (take k rounds) in
      let more = has-more from mid to (first_calls before) calls old now new first then in
      let here : first_calls (map plain_round (take (k + 1) rounds)) ≡ first_calls before ++ calls =
      ap (λ (l : List Round). first_calls (map plain_round l)) (take_more rounds k d within)
      ∙ (ap first_calls (map-append plain_round (take k rounds) (slice_index_or rounds k d ∷ []))
      ∙ (flat_map-append first_of before (plain_round (slice_index_or rounds k d) ∷ [])
      ∙ ap (λ (l : List Call). first_calls before ++ l) (append-nil (first_of (plain_round (slice_index_or rounds k d))) ∙ sym is))) in
      let P : List Call → Type 0 = λ l. HasReplied does from l to old new in
      subst P (sym here) more
