use Rattle.std.proofs.Common.{◌≡◌, ◌++◌, List, [], ℕ, ap, sym, ◌∙◌, subst, map, string_bytes, append_assoc}
use Rattle.script_text.specs.declared.scripts.Round.{Round}
use Rattle.script_text.specs.Scripts.{written, written_rounds, plain_round, plain_script}
use Rattle.script_text.specs.ScriptText.{HasScript}
use Rattle.script_text.proofs.RoundTrips.{written_reads}
use Rattle.script_text.proofs.writer.write_script.Goals as goal

-- five texts that were added one after another
five_texts : (start first second third fourth fifth a b c d e : List ℕ) → start ≡ [] → first ≡ start ++ a → second ≡ first ++ b → third ≡ second ++ c → fourth ≡ third ++ d → fifth ≡ fourth ++ e → fifth ≡ (a ++ (b ++ c)) ++ (d ++ e)
five_texts start first second third fourth fifth a b c d e none one two three four five =
    five ∙ (ap (λ (t : List ℕ). t ++ e) (four ∙ ap (λ (t : List ℕ). t ++ d) (three ∙ ap (λ (t : List ℕ). t ++ c) (two ∙ ap (λ (t : List ℕ). t ++ b) (one ∙ ap (λ (t : List ℕ). t ++ a) none)) ∙ append_assoc a b c)) ∙ append_assoc (a ++ (b ++ c)) d e)

pub returns-clause-reads : goal.returns-clause-reads
returns-clause-reads c =
    let text : string_bytes c.push_whole-4.new.text ≡ written (plain_script c.args.script.now) =
    five_texts _ _ _ _ _ _ _ _ _ _ _ c.new-text.ensures.bytes c.in_ok-push_whole.ensures c.in_ok-push_whole-2.ensures c.in_ok-push_whole-3.ensures
    (c.in_ok-push_rounds.ensures ∙ ap (λ (rounds : List Round). string_bytes c.push_whole-3.new.text ++ written_rounds (map plain_round rounds)) c.deref.ensures.value) c.in_ok-push_whole-4.ensures in
    subst (λ (t : List ℕ). HasScript t (Unit {0}) (plain_script c.args.script.now)) (sym text) (written_reads (plain_script c.args.script.now) c.requires)
