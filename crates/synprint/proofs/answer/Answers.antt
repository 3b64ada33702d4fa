-- What a text loads is sound and prints in at most 4,096 bytes, so a print is never refused.
use Rattle.std.proofs.Common.{rules, sym, ap, ◌∙◌, arith}
use Rattle.reader.specs.declared.load_text.Loaded.{Loaded}
use Rattle.transcript.specs.Input.{input_of}
use Rattle.synprint.specs.SynprintLaws.{never-refused, said-refusal, said-print}
use Rattle.synprint.proofs.Handed.{counted, loaded, set-loaded}
use Rattle.synprint.proofs.answer.Goals as goal

pub slice_bounds-load-end : goal.slice_bounds-load-end
slice_bounds-load-end c = counted c.args.input.now c.set_text_size-size.ensures

pub returns-then-l-ne0 : goal.returns-then-l-ne0
returns-then-l-ne0 c =
    let e = loaded c.args.input.now c.set_text_size-size.ensures c.load-l.ensures.value in
    let said = said-refusal c.args.input.now c.args.out.now _ _ (omega arith) (ap (λ (x : Loaded). x.code) e) (ap (λ (x : Loaded). x.line) e) c.if-l-ne0.true c.put_refusal.ensures.value c.put_refusal.ensures.out_after in
    record { value = said.0; out_after = said.1 }

pub unwrap-requires : goal.unwrap-requires
unwrap-requires c =
    let s = set-loaded c.args.input.now c.set_text_size-size.ensures c.load-l.ensures.set_after in
    rw (never-refused c.args.out.now (omega arith) (input_of c.args.input.now).text s c.print.ensures.value) (search rules)

pub returns : goal.returns
returns c =
    let e = loaded c.args.input.now c.set_text_size-size.ensures c.load-l.ensures.value in
    let s = set-loaded c.args.input.now c.set_text_size-size.ensures c.load-l.ensures.set_after in
    let said = said-print c.args.input.now c.args.out.now _ _ (omega arith) _ s (sym (ap (λ (x : Loaded). x.code) e) ∙ c.if-l-ne0.false) c.print.ensures.value c.print.ensures.buffer_after c.unwrap.ensures in
    record { value = said.0; out_after = said.1 }
