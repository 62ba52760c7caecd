use Rattle.std.proofs.Common.{◌≡◌, ℕ, List, length, map, None, ap, sym, subst, arith, ◌∙◌, bytes_eq}
use Rattle.aos_tree.specs.declared.module.Import.{Import}
use Rattle.aos_order.specs.Files.{file}
use Rattle.aos_order.proofs.Needing.{AreRead, out_read, file_read, absent_read, all_given, all_needs, key_of}
use Rattle.aos_order.proofs.names.file_needs.Goals as goal

-- what `get_or` reads past the end of a list of imports
abbrev no_import : Import
no_import = record { name = record { start = 0; end = 0; pos = record { line = 0; col = 0 } }; of = None }

read_all : {ns : List (List ℕ)} {text : List ℕ} {imports : List Import} {found : List ℕ} {i : ℕ} → AreRead ns text imports found i → i ≡ length imports →
    AreRead ns text imports found (length imports)
read_all are end = subst (AreRead _ _ _ _) end are

pub loop-import-preserved-then-eq : goal.loop-import-preserved-then-eq
loop-import-preserved-then-eq c =
    out_read (map (λ k. k.now) c.args.names.now.keys) c.args.text.now c.imports_of-import-items.result.now c.loop-import.needs.items c.loop-import.import-index no_import
    c.loop-import-test.true c.loop-import.invariant c.imported-name.result c.word-word.result.now c.imported-name.ensures c.word-word.ensures
    (sym (c.eq.ensures ∙ ap (λ v. bytes_eq v c.word-word.result.now) c.as_bytes.ensures.value) ∙ c.if-eq.true)

pub returns-in_default-clause-absent : goal.returns-in_default-clause-absent
returns-in_default-clause-absent c =
    let ks = c.args.names.now.keys in
    absent_read (map (λ k. k.now) ks) c.args.text.now c.imports_of-import-items.result.now c.loop-import.needs.items c.loop-import.import-index no_import
    c.loop-import-test.true c.loop-import.invariant c.imported-name.result c.word-word.result.now c.imported-name.ensures c.word-word.ensures
    (file c.args.text.now c.args.tree.now) c.args.number (ap (map _) (sym c.imports_of-import-items.ensures))
    (sym (c.eq.ensures ∙ ap (λ v. bytes_eq v c.word-word.result.now) c.as_bytes.ensures.value) ∙ c.if-eq.false)
    (sym (key_of ks c.word-word.result.now) ∙ sym c.get_index_of.ensures.index ∙ c.in_default.is)

pub loop-import-preserved : goal.loop-import-preserved
loop-import-preserved c =
    let ks = c.args.names.now.keys in
    file_read (map (λ k. k.now) ks) c.args.text.now c.imports_of-import-items.result.now c.loop-import.needs.items c.loop-import.import-index no_import
    c.loop-import-test.true c.loop-import.invariant c.imported-name.result c.word-word.result.now c.imported-name.ensures c.word-word.ensures
    c.in-Some.file c.push.new.self.items
    (sym (c.eq.ensures ∙ ap (λ v. bytes_eq v c.word-word.result.now) c.as_bytes.ensures.value) ∙ c.if-eq.false)
    (sym (key_of ks c.word-word.result.now) ∙ sym c.get_index_of.ensures.index ∙ c.in-Some.is) c.in_ok-push.ensures.items

pub returns-clause-given : goal.returns-clause-given
returns-clause-given c =
    all_given (map (λ k. k.now) c.args.names.now.keys) c.args.text.now c.imports_of-import-items.result.now c.loop-import.needs.items
    (file c.args.text.now c.args.tree.now) (ap (map _) (sym c.imports_of-import-items.ensures)) (read_all c.loop-import.invariant (omega arith))

pub returns-clause-needs : goal.returns-clause-needs
returns-clause-needs c =
    all_needs (map (λ k. k.now) c.args.names.now.keys) c.args.text.now c.imports_of-import-items.result.now c.loop-import.needs.items
    (file c.args.text.now c.args.tree.now) (ap (map _) (sym c.imports_of-import-items.ensures)) (read_all c.loop-import.invariant (omega arith))
