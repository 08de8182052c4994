-- What an opening gives.
use Rattle.std.proofs.Common.{◌≡◌, ◌<◌, ℕ, zero, suc, List, [], ◌∷◌, ◌++◌, length, take, drop, map, refl, ap, sym, ◌∙◌, subst, arith, Some, slice_get, append_assoc}
use Rattle.std.specs.Prelude.{reverse}
use Rattle.std.specs.List.{All}
use Rattle.std.specs.Option.{option_map}
use Rattle.std.proofs.lemmas.List.{reverse-append, length-map}
use Rattle.std.proofs.lemmas.List.Elements.{All-cons, All-same}
use Rattle.std.proofs.lemmas.Option.{slice_get-map}
use Rattle.pgas_base.specs.declared.shapes.Shape.{Shape}
use Rattle.pgas_base.specs.declared.starts.Start.{Start}
use Rattle.epoch_laws.specs.Words.{WordName}
use Rattle.pass_table.specs.declared.passes.Pass.{Pass}
use Rattle.pass_table.specs.declared.tables.PassTable.{PassTable}
use Rattle.pass_table.specs.Openings.{AreInOrder, IsOpened}
use Rattle.pass_table.proofs.Lists.{all_in_order, all_at}
use Rattle.epoch_table.specs.declared.events.Happens.{Happens}
use Rattle.epoch_table.specs.declared.events.Past.{Past}
use Rattle.epoch_table.specs.declared.parts.Plan.{Plan}
use Rattle.epoch_table.specs.declared.parts.Part.{Part}
use Rattle.epoch_table.specs.Clients.{ClientTerms}
use Rattle.epoch_table.specs.Rule.{manager_terms}
use Rattle.epoch_manager.specs.declared.managers.ClientPass.{ClientPass}
use Rattle.epoch_manager.specs.declared.managers.Manager.{Manager}
use Rattle.epoch_manager.specs.Managers.{pass_opening, opening_of, pointers}
use Rattle.epoch_manager.specs.Opened.{IsNew, IsIdlePass, IsNewPass, IsOpenedWith}

-- what a list is whose elements were all written anew
pub written : {A : Type 0} (xs ys : List A) (n : ℕ) → n ≡ length xs → length ys ≡ length xs → take n (ys ++ drop (length ys) xs) ≡ ys
written [] [] n many same = rw many refl
written [] (y ∷ ys) n many same = absurd (omega arith)
written (x ∷ xs) [] n many same = absurd (omega arith)
written (x ∷ xs) (y ∷ ys) n many same =
    subst (λ k. take k ((y ∷ ys) ++ drop (length (y ∷ ys)) (x ∷ xs)) ≡ y ∷ ys) (sym many)
    (ap (λ l. y ∷ l) (written xs ys (length xs) refl (omega arith)))

-- one more was moved from the end of the one list to the front of the other
pub moved : {A B : Type 0} (f : B → A) (all rest left : List A) (ws vs : List B) (a : A) (b : B) → all ≡ rest ++ map f (reverse ws) → rest ≡ left ++ a ∷ [] → vs ≡ ws ++ b ∷ [] → f b ≡ a → all ≡ left ++ map f (reverse vs)
moved f all rest left ws vs a b from popped pushed is =
    from
    ∙ (ap (λ l. l ++ map f (reverse ws)) popped
    ∙ (append_assoc left (a ∷ []) (map f (reverse ws)) ∙ (ap (λ x. left ++ x ∷ map f (reverse ws)) (sym is) ∙ ap (λ l. left ++ map f l) (sym (ap reverse pushed ∙ reverse-append ws (b ∷ []))))))

pub all_moved : {B : Type 0} (P : B → Type 0) (ws vs : List B) (b : B) → vs ≡ ws ++ b ∷ [] → P b → All P (reverse ws) → All P (reverse vs)
all_moved P ws vs b pushed one all = All-same P (reverse vs) (b ∷ reverse ws) (ap reverse pushed ∙ reverse-append ws (b ∷ [])) (All-cons P b (reverse ws) one all)

pub got : {A B : Type 0} (f : A → B) (xs : List A) (ys : List B) (k : ℕ) (x : A) → map f xs ≡ ys → slice_get xs k ≡ Some x → slice_get ys k ≡ Some (f x)
got f xs ys k x is at = ap (λ l. slice_get l k) (sym is) ∙ (slice_get-map f xs k ∙ ap (option_map f) at)

got_within : {A : Type 0} (xs : List A) (k : ℕ) (x : A) → slice_get xs k ≡ Some x → k < length xs
got_within [] k x at = absurd (cc at)
got_within (y ∷ ys) zero x at = omega arith
got_within (y ∷ ys) (suc k) x at = let below = got_within ys k x at in omega arith

module _ {Self View' Call Reply State' C O : Type 0} (K : ClientTerms Self View' Call Reply State')
    (d : PassTable C O (Unit {0}) (Plan Self) (Part View') WordName (Happens Call Reply) (Unit {0}) (Past State')) (plan : Plan Self) (words slots : ℕ)
    (passes : List (Pass (Unit {0}) (Happens Call Reply) (Unit {0}) (Plan Self) (Part View') WordName)) (opened : IsOpened (manager_terms K) d plan words slots passes) where
  pub all_new : All (IsNew K d) passes
  all_new =
      all_in_order (λ k p. IsNew K d p) (IsNew K d) passes (λ k p new. new)
      (λ k p at.
      let new = opened.each k p at in
      let low = got_within passes k p at in
      let many = opened.count in
      let number = new.numbered in
      let callers = ap (λ h. h.callers) opened.planned in
      record { opening = new.opening; below = omega arith; part = new.part })

module _ {C O View' Call Reply State' : Type 0} (K : ClientTerms C View' Call Reply State') (m : Manager C O View' Call Reply State') (shape : Shape) (start : Start) (callers : ℕ) (client : C) (words slots : ℕ)
    (passes : List (Pass (Unit {0}) (Happens Call Reply) (Unit {0}) (Plan C) (Part View') WordName)) (wrapped : List (ClientPass C View' Call Reply))
    (opened : IsOpened (manager_terms K) m.words.table (record { shape = shape; start = start; callers = callers; client = client; own = K.own client }) words slots passes)
    (same : map (λ p. p.pass) wrapped ≡ passes) (idle : All IsIdlePass wrapped) where
  each_new : AreInOrder (IsNewPass K m) wrapped
  each_new k p at =
      let new = opened.each k p.pass (got (λ p. p.pass) wrapped passes k p same at) in
      record {
        opening = new.opening;
        numbered = new.numbered;
        empty = new.empty;
        unread = new.unread;
        idle = all_at IsIdlePass wrapped k p idle at;
        owns = ap (λ x. pointers x.facts x.seat.owned) new.part;
        holds = ap (λ x. pointers x.facts x.seat.held) new.part;
        told = ap (λ x. x.client) new.part;
      }

  pub opened_with : IsOpenedWith K shape start callers client m wrapped
  opened_with = record {
    planned = opened.planned;
    count = sym (length-map wrapped (λ (p : ClientPass C View' Call Reply). p.pass)) ∙ (ap length same ∙ opened.count);
    each = each_new;
    opening = all_in_order (IsNewPass K m) (λ (p : ClientPass C View' Call Reply). pass_opening p ≡ opening_of m) wrapped (λ k p new. new.opening) each_new;
    idle = idle;
  }
