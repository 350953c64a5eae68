mod Idents
