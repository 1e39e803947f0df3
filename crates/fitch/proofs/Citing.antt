-- What a citation stands for is one thing at most.
use Rattle.std.proofs.Common.{◌≡◌, ℕ, List, ◌∷◌, Some, sym, ap, ◌∙◌, subst, ap₂, arith}
use Rattle.grammar.specs.Formula.{Formula}
use Rattle.fitch.specs.History.{History, Box, Line, line_at, outer, Stands, Reads, Shows}
use Rattle.fitch.specs.Rules.{line, box}
use Rattle.fitch.specs.Exact.{CitedOnce}

-- a line has one formula, and one list of boxes
pub same_stands : (h : History) (i : ℕ) (A B : Formula) (bs cs : List Box) → Stands h i A bs → Stands h i B cs → (A ≡ B) × (bs ≡ cs)
same_stands h i A B bs cs p q =
    let x : Line = record { formula = A; inside = bs } in
    let y : Line = record { formula = B; inside = cs } in
    let e : x ≡ y = cc in
    (ap (λ l. l.formula) e, ap (λ l. l.inside) e)

reads_once : {h : History} {i : ℕ} {A B : Formula} → Reads h i A → Reads h i B → A ≡ B
reads_once {h} {i} {A} {B} p q = (same_stands h i A B p.inside q.inside p.stands q.stands).0

-- at most one of two ends is the later
same_end : {h : History} {b : ℕ} {A C D : Formula} (p : Shows h b A C) (q : Shows h b A D) → p.around ≡ q.around → C ≡ D
same_end {h} {b} {A} {C} {D} p q e =
    let cs : List Box → List Box = λ r. record { first = b; assumes = A } ∷ r in
    let p_last : Stands h p.end C (cs q.around) = p.last ∙ ap (λ r. Some (record { formula = C; inside = cs r })) e in
    let q_last : Stands h q.end D (cs p.around) = q.last ∙ ap (λ r. Some (record { formula = D; inside = cs r })) (sym e) in
    let le = q.latest p.end C p_last in
    let ge = p.latest q.end D q_last in
    let n : p.end ≡ q.end = omega arith in
    (same_stands h q.end C D (cs p.around) (cs q.around) (sym (ap (line_at h) n) ∙ p.last) q.last).0

shows_once : {h : History} {b : ℕ} {A B C D : Formula} → Shows h b A C → Shows h b B D → (A ≡ B) × (C ≡ D)
shows_once {h} {b} {A} {B} {C} {D} p q =
    let e = (same_stands h b A B _ _ p.first q.first).0 in
    let q' : Shows h b A D = subst (λ F. Shows h b F D) (sym e) q in
    let f = (same_stands h b A A _ _ p.first q'.first).1 in
    (e, same_end p q' (ap outer f))

pub cited_once : CitedOnce
cited_once h i (line A) (line B) e p q = ap line (reads_once p q)
cited_once h i (line A) (box B D) e p q = let z : ◌≡◌ {A = ℕ} 0 1 = cc in absurd (omega arith)
cited_once h i (box A C) (line B) e p q = let z : ◌≡◌ {A = ℕ} 0 1 = cc in absurd (omega arith)
cited_once h i (box A C) (box B D) e p q = let r = shows_once p q in ap₂ box r.0 r.1
