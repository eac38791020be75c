-- What a rehearsal prints. Every line ends in byte 10.
use Rattle.std.specs.Prelude.{ℕ, zero, suc, List, [], ◌∷◌, ◌++◌, Ok, Err, codes, decimal, Result}
use Rattle.protocol.specs.State.{State, row_of}
use Rattle.protocol.specs.Worklist.{standing_at}
use Rattle.protocol.specs.declared.call.Answer.{Answer}
use Rattle.protocol.specs.declared.standing.Standing.{Standing}
use Rattle.protocol.specs.declared.standing.Standing.TheVariants.{Running, Stopped, Known, Uncertain}
use Rattle.report.specs.Letters.{letters}
use Rattle.script.specs.Refusals.{layer_of, number_of}
use Rattle.script.specs.declared.fault.ScriptRefusal.{ScriptRefusal}

-- the line's number and 0
abbrev pub taken_text : ℕ → List ℕ
taken_text line = decimal line ++ (32 ∷ (48 ∷ (10 ∷ [])))

-- the line's number, the refusal's number and its layer's letter
abbrev pub fault_words : ℕ → ScriptRefusal → List ℕ
fault_words line refusal = decimal line ++ (32 ∷ (decimal (number_of refusal) ++ (32 ∷ (layer_of refusal ∷ []))))

-- as a line
abbrev pub fault_text : ℕ → ScriptRefusal → List ℕ
fault_text line refusal = decimal line ++ (32 ∷ (decimal (number_of refusal) ++ (32 ∷ (layer_of refusal ∷ (10 ∷ [])))))

abbrev pub answer_text : ℕ → Result Answer ScriptRefusal → List ℕ
answer_text line (Ok answer) = taken_text line
answer_text line (Err refusal) = fault_text line refusal

-- R, X, K or U
abbrev pub standing_letter : Standing → ℕ
standing_letter Running = 82
standing_letter Stopped = 88
standing_letter Known = 75
standing_letter Uncertain = 85

-- `L`, the ledger, how it stands
abbrev pub head_text : ℕ → Standing → List ℕ
head_text p standing = codes "L " ++ (decimal p ++ (32 ∷ (standing_letter standing ∷ (32 ∷ []))))

-- and its entries as letters
abbrev pub ledger_text : State → ℕ → List ℕ
ledger_text s p = head_text p (standing_at (row_of s p).status (s.entries p)) ++ (letters (s.entries p) ++ (10 ∷ []))

-- those of the ledgers below n
unfoldable pub ledger_texts : State → ℕ → List ℕ
ledger_texts s zero = []
ledger_texts s (suc p) = ledger_texts s p ++ ledger_text s p

-- `M` and the total
abbrev pub total_text : ℕ → List ℕ
total_text total = codes "M " ++ (decimal total ++ (10 ∷ []))

-- how the ledgers stand at the end
abbrev pub end_text : State → List ℕ
end_text s = ledger_texts s s.ledgers ++ total_text s.sent
