-- One text more, and one definition fewer.
use Rattle.qil_checker.proofs.Programs.Gathered.{next_data, next_func}
use Rattle.qil_checker.proofs.program_index.Left.push_next.Goals as goal

pub returns-in_ok-push-in-Data : goal.returns-in_ok-push-in-Data
returns-in_ok-push-in-Data g c = λ order.
    next_data c.args.out.now.items c.push.new.self.items c.in_ok-data_text-in-Data.field-0 c.args.definition order c.object-item.result c.args.self.now.datas.now c.args.self.now.funcs.now
    c.in-Data.is c.in-len1-up.len_at_least c.object-item.is c.in_ok-push-in-Data.ensures.items c.in_ok-data_text-in-Data.ensures

pub returns-in_ok-push-in-Func : goal.returns-in_ok-push-in-Func
returns-in_ok-push-in-Func g c = λ order.
    next_func c.args.out.now.items c.push-in-len1-up-funcs.new.self.items c.in_ok-func_text-in-Func.field-0 c.args.definition order c.func-item.result c.args.self.now.datas.now c.args.self.now.funcs.now
    c.in-Func.is c.in-len1-up-funcs.len_at_least c.func-item.is c.in_ok-push-in-Func.ensures.items c.in_ok-func_text-in-Func.ensures
