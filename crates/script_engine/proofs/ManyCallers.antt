-- The calls of many callers, round by round, are an answer.
use Rattle.std.proofs.Common.{◌≡◌, ◌⊎◌, inl, inr, ℕ, List, [], ◌∷◌, ◌++◌, refl, ap, sym, ◌∙◌, subst, append_assoc}
use Rattle.std.proofs.lemmas.List.{append-nil}
use mathlib.Core.List.{IsPrefix}
use Rattle.pass_book.specs.declared.entries.Entry.{Entry}
use Rattle.pass_book.specs.Histories.{entries_of, IsOfOthers}
use Rattle.pass_book.specs.Pages.{Page, IsPage}
use Rattle.pass_book.proofs.Prefixes.{prefix_self, prefix_trans}
use Rattle.pass_book.proofs.Sublists.{entries_of-append, entries_of-between, rest_of_others}
use Rattle.script_text.specs.declared.scripts.Call.{Call}
use Rattle.script_text.specs.declared.replies.Reply.{Reply}
use Rattle.script_engine.specs.Answers.{Stands}
use Rattle.script_engine.specs.Replied.{Replied}
use Rattle.script_engine.specs.Rounds.{IsSynced, Makes, Widens, WentOn}

same_rest : {A : Type 0} (front xs ys : List A) → front ++ xs ≡ front ++ ys → xs ≡ ys
same_rest [] xs ys is = is
same_rest (x ∷ front) xs ys is = same_rest front xs ys cc

module _ {Asked Told : Type 0} where
  both_others : (caller : ℕ) (h k : List (Entry Asked Told)) → IsOfOthers caller h → IsOfOthers caller k → IsOfOthers caller (h ++ k)
  both_others caller h k a b = entries_of-append caller h k ∙ (ap (λ (l : List (Entry Asked Told)). l ++ entries_of caller k) a ∙ b)

module _ {Asked Told : Type 0} (Says : ℕ → Call → Reply → List (Entry Asked Told) → List (Entry Asked Told) → Type 0) (widens : Widens Says) where
  -- calls only add to what is seen
  pub only_adds : (caller : ℕ) (calls : List Call) (replies : List Reply) (old new : Page Asked Told) → Replied (Makes Says caller) old calls replies new → IsPrefix old.seen new.seen
  only_adds caller [] [] old new made = subst (λ (p : Page Asked Told). IsPrefix old.seen p.seen) (sym made) (prefix_self old.seen)
  only_adds caller [] (reply ∷ replies) old new made = absurd made
  only_adds caller (call ∷ calls) [] old new made = absurd made
  only_adds caller (call ∷ calls) (reply ∷ replies) old new made =
      let next : Page Asked Told = made.0 in
      prefix_trans old.seen next.seen new.seen (made.1.stretch, sym made.1.seen) (only_adds caller calls replies next new made.2)

  -- a page stays one
  pub stays_page : (caller : ℕ) (calls : List Call) (replies : List Reply) (old new : Page Asked Told) → IsPage caller old → Replied (Makes Says caller) old calls replies new → IsPage caller new
  stays_page caller [] [] old new own made = subst (IsPage caller) (sym made) own
  stays_page caller [] (reply ∷ replies) old new own made = absurd made
  stays_page caller (call ∷ calls) [] old new own made = absurd made
  stays_page caller (call ∷ calls) (reply ∷ replies) old new own made = stays_page caller calls replies made.0 new made.1.own made.2

  -- Where a page stands before its calls, in a history that grows: `before` is what others and it did before the round, `gap` what
  -- else it has seen, and `tail` what was done behind its calls.
  stands : (caller : ℕ) (calls : List Call) (replies : List Reply) (old new : Page Asked Told) (before gap tail part whole : List (Entry Asked Told)) → Replied (Makes Says caller) old calls replies new
      → before ++ gap ≡ old.seen → IsOfOthers caller gap → new.seen ++ tail ≡ whole → IsOfOthers caller tail → before ++ part ≡ whole → Stands Says caller before calls replies part
  stands caller [] [] old new before gap tail part whole made from none to nothing all =
      let is : part ≡ gap ++ tail =
      same_rest before part (gap ++ tail)
      (all ∙ (sym to ∙ (ap (λ (p : Page Asked Told). p.seen ++ tail) made ∙ (ap (λ (l : List (Entry Asked Told)). l ++ tail) (sym from) ∙ append_assoc before gap tail)))) in
      subst (IsOfOthers caller) (sym is) (both_others caller gap tail none nothing)
  stands caller [] (reply ∷ replies) old new before gap tail part whole made from none to nothing all = absurd made
  stands caller (call ∷ calls) [] old new before gap tail part whole made from none to nothing all = absurd made
  stands caller (call ∷ calls) (reply ∷ replies) old new before gap tail part whole made from none to nothing all =
      let next : Page Asked Told = made.0 in
      let stretch : List (Entry Asked Told) = made.1.stretch in
      let more = only_adds caller calls replies next new made.2 in
      let now : before ++ (gap ++ stretch) ≡ next.seen =
      sym (append_assoc before gap stretch) ∙ (ap (λ (l : List (Entry Asked Told)). l ++ stretch) from ∙ sym made.1.seen) in
      let then : (before ++ (gap ++ stretch)) ++ (more.0 ++ tail) ≡ whole =
      ap (λ (l : List (Entry Asked Told)). l ++ (more.0 ++ tail)) now ∙ (sym (append_assoc next.seen more.0 tail) ∙ (ap (λ (l : List (Entry Asked Told)). l ++ tail) more.1 ∙ to)) in
      let is : part ≡ (gap ++ stretch) ++ (more.0 ++ tail) =
      same_rest before part ((gap ++ stretch) ++ (more.0 ++ tail)) (all ∙ (sym then ∙ append_assoc before (gap ++ stretch) (more.0 ++ tail))) in
      let says = subst (λ (l : List (Entry Asked Told)). Says caller call reply l stretch) (sym from) made.1.says in
      let rest = stands caller calls replies next new (before ++ (gap ++ stretch)) [] tail (more.0 ++ tail) whole made.2 (append-nil (before ++ (gap ++ stretch)) ∙ now) refl to nothing then in
      (gap ++ stretch, more.0 ++ tail, is, widens caller call reply before gap stretch none says, rest)

  -- the same of a caller that went on from one moment at which all were synced to the next
  pub went_on : (caller : ℕ) (calls : List Call) (replies : List Reply) (before history part : List (Entry Asked Told)) (old mid new : Page Asked Told) → IsSynced caller before old
      → (went : WentOn Says caller calls replies history old mid new) → before ++ part ≡ history → IsSynced caller history new × Stands Says caller before calls replies part
  went_on caller calls replies before history part old mid new at went is =
      let kept : IsPage caller mid = stays_page caller calls replies old mid at.own went.made in
      (record { begins = went.begins; whole = all went.told; own = went.own }, placed went.told)
    where
      -- no more than the caller's own list
      whole : (xs : List (Entry Asked Told)) → IsPrefix xs history → entries_of caller xs ≡ new.mine → new.mine ≡ entries_of caller history
      whole xs p same = sym same ∙ sym (entries_of-between caller xs history new.seen p went.begins (sym went.own ∙ sym same))

      idle : (its : List Call) (told : List Reply) → its ≡ [] → Replied (Makes Says caller) old its told mid → (mid ≡ old) × (told ≡ [])
      idle [] [] none made = (made, refl)
      idle [] (reply ∷ told) none made = absurd made
      idle (call ∷ its) told none made = absurd cc

      all : (calls ≡ []) ⊎ IsPrefix mid.seen history → new.mine ≡ entries_of caller history
      all (inl none) =
          let same : new.mine ≡ old.mine = went.mine ∙ ap (λ (p : Page Asked Told). p.mine) (idle calls replies none went.made).0 in
          whole before (part, is) (sym at.whole ∙ sym same)
      all (inr p) =
          let kept : IsPage caller mid = stays_page caller calls replies old mid at.own went.made in
          whole mid.seen p (sym kept ∙ sym went.mine)

      gap : IsOfOthers caller (at.begins).0
      gap = rest_of_others caller before old.seen (sym at.own ∙ at.whole) at.begins

      placed : (calls ≡ []) ⊎ IsPrefix mid.seen history → Stands Says caller before calls replies part
      placed (inl none) =
          let still = idle calls replies none went.made in
          let same : new.mine ≡ old.mine = went.mine ∙ ap (λ (p : Page Asked Told). p.mine) still.0 in
          let others : IsOfOthers caller part = rest_of_others caller before history (sym (all (inl none)) ∙ (same ∙ at.whole)) (part, is) in
          subst (λ (its : List Call). Stands Says caller before its replies part) (sym none) (subst (λ (told : List Reply). Stands Says caller before [] told part) (sym still.1) others)
      placed (inr p) =
          let kept : IsPage caller mid = stays_page caller calls replies old mid at.own went.made in
          let others : IsOfOthers caller p.0 = rest_of_others caller mid.seen history (sym (all (inr p)) ∙ (went.mine ∙ kept)) p in
          stands caller calls replies old mid before at.begins.0 p.0 part history went.made at.begins.1 gap p.1 others is
