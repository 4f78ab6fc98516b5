-- `proposal_file::hold_proposal` meets its contract: one row of the table per test, in the table's order, until one
-- fails. Assumes nothing.
use Rattle.proposal_file.specs.declared.ProposalOpening.{ProposalOpening}
use Rattle.std.proofs.lemmas.Result.{err_from_is_err_and}
use Rattle.std.proofs.Common.{◌≡◌, ℕ, List, [], ◌∷◌, Bool, not, ◌&&◌, length, eqb, sym, ap, ◌∙◌, eq-eqb, ne_eqb, le-ltb}
use Rattle.std.specs.Prelude.{ℤ, pos, Option, Result, Ok, Err}
use Rattle.std.proofs.Math.Option.{none, some}
use Rattle.base_limits.specs.Meaning.Limits as limits
use Rattle.base_measures.specs.declared.Share.{Share}
use Rattle.base_measures.specs.Meaning.Held.{share_in}
use Rattle.base_measures.specs.Steps.Held.{share-outside, share-held}
use Rattle.rules.specs.Meaning.Layout.{proposal_length, proposal_version}
use Rattle.rules.specs.Meaning.Layout as layout
use Rattle.base_causes.specs.declared.Outcome.{Outcome}
use Rattle.base_causes.proofs.Promised.CauseLaws.{Comes, clear, fails-at, none_left, once-fails, once-passes}
use Rattle.rules.specs.Meaning.Verdict.{differ, not_mark}
use Rattle.bytes_read.specs.Meaning.Field.{cursor}
use Rattle.bytes_read.specs.Steps.Walked.{walk_refused, walk-past}
use Rattle.case_header.specs.declared.Counts.{Counts}
use Rattle.case_header.specs.Meaning.CaseReadable.{CaseReadable}
use Rattle.case_header.specs.Steps.CaseReadable.{headed, limited}
use Rattle.proposal_file.specs.declared.Header.{Header}
use Rattle.proposal_file.specs.Meaning.Answer.{opening_of, proposal_by, proposal_answer, header_in}
use Rattle.proposal_file.specs.Steps.ProposalValid.{length_of, shadow_cause, rows_of, rows_are, length-is}
use Rattle.proposal_file.proofs.hold_proposal.Goals as goal

-- a refusal by the rows
refused-by : (s t : List ℕ) {a : Result ProposalOpening Outcome} {o : Outcome} → a ≡ Err o → Comes (rows_of s t) (some o) → a ≡ proposal_answer s t
refused-by s t e w = e ∙ ap (proposal_by (opening_of t)) (sym (rows_are s t ∙ w.is))

-- ROWS 10 to 13, tested by the header's fields and by the counts
module _ (t : List ℕ) {h : Header} (e : h ≡ header_in t) where
  mark-test : {b : Bool} → b ≡ not (eqb h.mark.0 76 && eqb h.mark.1 84 && eqb h.mark.2 80) → not_mark 76 84 80 t ≡ b
  unfolding not_mark
  mark-test q = sym (q ∙ ap (λ (h : Header). not (eqb h.mark.0 76 && eqb h.mark.1 84 && eqb h.mark.2 80)) e)

  version-is : differ (proposal_version t) 1 ≡ not (eqb h.version 1)
  version-is = sym (ap (λ (h : Header). differ h.version 1) e)

  share-is : {x : ℤ} {a : Option Share} → x ≡ pos h.share → a ≡ share_in limits.share x → share_in limits.share (pos (layout.share_in t)) ≡ a
  share-is q f = sym (f ∙ ap (share_in limits.share) (q ∙ ap (λ (h : Header). pos h.share) e))

demanded-is : {s : List ℕ} {k : Counts} {n : ℕ} → CaseReadable s k → (t : List ℕ) → n ≡ length_of k → n ≡ proposal_length s
demanded-is o t e = e ∙ length-is o t

pub returns-then-differs : goal.returns-then-differs
returns-then-differs c =
    refused-by c.args.«case».bytes.now c.args.proposal.now c.refused.ensures
    (clear (once-passes (le-ltb _ _ c.requires.proposal_header_in_bounds))
    (fails-at 0 (once-fails (mark-test c.args.proposal.now c.requires.h_value c.if-differs.ensures))))

pub returns-then-h-ne-VERSION : goal.returns-then-h-ne-VERSION
returns-then-h-ne-VERSION c =
    refused-by c.args.«case».bytes.now c.args.proposal.now c.refused-then-h-ne-VERSION.ensures
    (clear (once-passes (le-ltb _ _ c.requires.proposal_header_in_bounds))
    (clear (once-passes (mark-test c.args.proposal.now c.requires.h_value c.if-differs.ensures))
    (fails-at 0 (once-fails (version-is c.args.proposal.now c.requires.h_value ∙ ap not (ne_eqb _ _ c.if-h-ne-VERSION.true))))))

pub demanded-requires : goal.demanded-requires
demanded-requires c = limited (headed c.args.«case».readable)

pub returns-then-proposal-demanded : goal.returns-then-proposal-demanded
returns-then-proposal-demanded c =
    let s = c.args.«case».bytes.now in
    let t = c.args.proposal.now in
    let d = demanded-is c.args.«case».readable t c.demanded.ensures in
    refused-by s t c.refused-then-proposal-demanded.ensures
    (clear (once-passes (le-ltb _ _ c.requires.proposal_header_in_bounds))
    (clear (once-passes (mark-test c.args.proposal.now c.requires.h_value c.if-differs.ensures))
    (clear (once-passes (version-is c.args.proposal.now c.requires.h_value ∙ ap not (eq-eqb _ _ c.if-h-ne-VERSION.false)))
    (fails-at 0 (once-fails (ap not (ne_eqb (length t) (proposal_length s) (λ e. c.if-proposal-demanded.true (e ∙ sym d)))))))))

pub returns-in_default : goal.returns-in_default
returns-in_default c =
    let s = c.args.«case».bytes.now in
    let t = c.args.proposal.now in
    let d = demanded-is c.args.«case».readable t c.demanded.ensures in
    refused-by s t c.refused-in_default.ensures
    (clear (once-passes (le-ltb _ _ c.requires.proposal_header_in_bounds))
    (clear (once-passes (mark-test c.args.proposal.now c.requires.h_value c.if-differs.ensures))
    (clear (once-passes (version-is c.args.proposal.now c.requires.h_value ∙ ap not (eq-eqb _ _ c.if-h-ne-VERSION.false)))
    (clear (once-passes (ap not (eq-eqb _ _ (c.if-proposal-demanded.false ∙ d))))
    (fails-at 0 (once-fails (share-outside _ _ (share-is c.args.proposal.now c.requires.h_value c.from.ensures c.new.ensures ∙ c.in_default.is))))))))

pub walk_parts-requires-clause-proposal_len : goal.walk_parts-requires-clause-proposal_len
walk_parts-requires-clause-proposal_len c = c.if-proposal-demanded.false ∙ demanded-is c.args.«case».readable c.args.proposal.now c.demanded.ensures

-- ROW 14
pub returns : goal.returns
returns c =
    let s = c.args.«case».bytes.now in
    let t = c.args.proposal.now in
    let d = demanded-is c.args.«case».readable t c.demanded.ensures in
    let held = share-held _ _ c.in-Some.share (share-is c.args.proposal.now c.requires.h_value c.from.ensures c.new.ensures ∙ c.in-Some.is) in
    let shadows : Comes (shadow_cause s t ∷ []) none = record { is = (walk-past (shadow_cause s t) (cursor (proposal_length s)) (sym c.walk_parts.ensures ∙ c.in_ok-walk_parts.was)).0 [] ∙ none_left.is } in
    let passed : Comes (rows_of s t) none =
    clear (once-passes (le-ltb _ _ c.requires.proposal_header_in_bounds))
    (clear (once-passes (mark-test c.args.proposal.now c.requires.h_value c.if-differs.ensures))
    (clear (once-passes (version-is c.args.proposal.now c.requires.h_value ∙ ap not (eq-eqb _ _ c.if-h-ne-VERSION.false)))
    (clear (once-passes (ap not (eq-eqb _ _ (c.if-proposal-demanded.false ∙ d))))
    (clear (once-passes held.0) shadows)))) in
    (λ j. Ok (record { share = record { 0 = held.1 j }; system = (c.requires.h_value j).system }))
    ∙ ap (proposal_by (opening_of t)) (sym (rows_are s t ∙ passed.is))

pub returns-in_err-walk_parts : goal.returns-in_err-walk_parts
returns-in_err-walk_parts c =
    let s = c.args.«case».bytes.now in
    let t = c.args.proposal.now in
    let d = demanded-is c.args.«case».readable t c.demanded.ensures in
    let held = share-held _ _ c.in-Some.share (share-is c.args.proposal.now c.requires.h_value c.from.ensures c.new.ensures ∙ c.in-Some.is) in
    let p = err_from_is_err_and c.from_residual.result c.from_residual.ensures.1 in
    refused-by s t (p.1 ∙ ap Err p.2)
    (clear (once-passes (le-ltb _ _ c.requires.proposal_header_in_bounds))
    (clear (once-passes (mark-test c.args.proposal.now c.requires.h_value c.if-differs.ensures))
    (clear (once-passes (version-is c.args.proposal.now c.requires.h_value ∙ ap not (eq-eqb _ _ c.if-h-ne-VERSION.false)))
    (clear (once-passes (ap not (eq-eqb _ _ (c.if-proposal-demanded.false ∙ d))))
    (clear (once-passes held.0)
    (record { is = walk_refused (shadow_cause s t) (cursor (proposal_length s)) (sym c.walk_parts.ensures ∙ c.in_err-walk_parts.was) [] }))))))
